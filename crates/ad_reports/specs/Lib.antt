pub mod DayTable
pub mod TableLine
pub mod Totals
