pub mod Counting
pub mod Exposition
pub mod Health
pub mod Links
pub mod Page
pub mod Serving
pub mod Times
