pub mod Computing
pub mod Shown
pub mod Owners
