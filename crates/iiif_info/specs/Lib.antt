pub mod Information
pub mod Laws
