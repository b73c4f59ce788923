pub mod Accepting
pub mod DoorInMemory
pub mod DoorView
pub mod TcpEnds
