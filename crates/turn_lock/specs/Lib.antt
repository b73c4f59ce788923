pub mod Lists
pub mod Views
pub mod Queue
pub mod Rule
pub mod Steps
pub mod LockValues
pub mod Seats
pub mod Passes
