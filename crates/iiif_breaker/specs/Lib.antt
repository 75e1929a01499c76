pub mod Breaking
pub mod Counting
pub mod Durations
pub mod Laws
