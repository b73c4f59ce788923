pub mod Throughout
pub mod Paired
