pub mod Levels
pub mod Plans
pub mod Laws
pub mod Items
pub mod Bands
pub mod BandLaws
pub mod Code
