pub mod Clicks
pub mod Linked
pub mod PlacementsValue
