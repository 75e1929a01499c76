pub mod Cause
pub mod Files
pub mod Runs
