pub mod OutKind
pub mod File
pub mod Reading
pub mod Bands
pub mod Laws
pub mod Code
