pub mod PartLemmas
pub mod TextLemmas
pub mod FormLemmas
pub mod Turns
pub mod Meeting
pub mod OnPage
pub mod Judged
