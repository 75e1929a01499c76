pub mod Bags
pub mod Collisions
pub mod Faults
pub mod Laws
pub mod Manifests
pub mod Pieces
pub mod Reads
