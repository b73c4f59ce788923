mod OpenDoors
