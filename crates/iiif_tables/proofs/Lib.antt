pub mod CacheLaws
pub mod Caches
pub mod Examples
pub mod FlightLaws
pub mod Keeping
pub mod Lists
pub mod TableLaws
