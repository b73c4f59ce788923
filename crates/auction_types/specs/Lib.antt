pub mod AdValue
pub mod Laws
pub mod Order
pub mod Page
pub mod Price
