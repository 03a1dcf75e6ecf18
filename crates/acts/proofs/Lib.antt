pub mod Laws
pub mod Cases
pub mod Numbers
pub mod Order
pub mod Feeding
pub mod Once
