pub mod Checking
pub mod DayTotals
pub mod KeeperView
pub mod Keeping
pub mod OwnRows
pub mod PlacementChecks
pub mod RowsValue
