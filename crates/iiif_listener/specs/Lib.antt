pub mod Failures
pub mod Flow
pub mod Places
pub mod Recent
