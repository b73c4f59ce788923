pub mod CallState
pub mod Printout
pub mod Saying
