pub mod Places
pub mod Joiners
pub mod Leavers
pub mod Members
pub mod Service
