pub mod Code
pub mod Exchanges
pub mod Faults
pub mod Messages
pub mod Reading
pub mod Serving
