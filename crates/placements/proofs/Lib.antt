pub mod Keeping
pub mod Left
pub mod Loading
pub mod Numbers
pub mod Walking
