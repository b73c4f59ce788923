pub mod Accounts
pub mod AdLemmas
pub mod Entrants
pub mod Members
pub mod OrderLemmas
pub mod Pages
pub mod PriceLemmas
pub mod Ranking
