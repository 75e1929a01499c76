pub mod Outcomes
pub mod Views
