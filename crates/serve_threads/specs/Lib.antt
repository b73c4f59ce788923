pub mod Visits
pub mod WorkerView
pub mod Working
pub mod Underway
