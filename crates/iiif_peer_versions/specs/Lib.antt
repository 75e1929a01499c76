pub mod Digits
pub mod Keys
pub mod Laws
pub mod Told
