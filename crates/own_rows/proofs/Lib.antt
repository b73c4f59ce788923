pub mod Within
pub mod ReadAlone
pub mod Asking
pub mod Days
pub mod Refused
pub mod Replied
pub mod LeftRows
pub mod Others
