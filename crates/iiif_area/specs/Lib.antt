pub mod Places
pub mod Grid
pub mod Laws
pub mod Code
