pub mod Delivery
pub mod Code
