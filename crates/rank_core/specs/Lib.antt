pub mod Nexts
pub mod Ranked
pub mod Top
