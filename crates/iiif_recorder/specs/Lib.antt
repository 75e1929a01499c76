pub mod Waiting
pub mod Words
