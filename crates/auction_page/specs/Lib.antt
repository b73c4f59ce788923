pub mod HeadingValue
pub mod Form
pub mod MeetsHeading
pub mod Reading
pub mod Ending
pub mod PageText
pub mod AuctionCall
