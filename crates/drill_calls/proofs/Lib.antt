pub mod Drawing
pub mod Counting
pub mod MakingCalls
pub mod AccountCalls
pub mod SearchCalls
