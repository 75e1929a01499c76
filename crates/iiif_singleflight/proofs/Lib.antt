pub mod Functions
mod Keyed
mod Known
pub mod LandingLaws
pub mod Laws
mod Looking
