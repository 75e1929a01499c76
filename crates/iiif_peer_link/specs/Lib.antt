pub mod Asking
pub mod Ends
pub mod Honest
pub mod Lengths
pub mod Places
pub mod Versions
