mod Moved
pub mod Appending
mod Sending
pub mod Putting
mod FlatMaps
pub mod PuttingEach
pub mod Pairs
pub mod LineLaws
mod Filling
mod LineFeeds
pub mod LineCuts
pub mod Ahead
mod NextLines
mod Returns
pub mod ToldLaws
mod NextTold
pub mod ReadSoFar
pub mod NumberLemmas
