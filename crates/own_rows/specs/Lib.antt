pub mod LeftAlone
pub mod OwnReply
