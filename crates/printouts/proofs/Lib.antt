pub mod Sending
pub mod Statuses
