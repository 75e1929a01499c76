pub mod Copying
pub mod MemoryBytes
pub mod Moving
