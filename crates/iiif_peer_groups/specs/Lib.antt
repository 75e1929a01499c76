pub mod Code
pub mod Kinds
pub mod Replying
