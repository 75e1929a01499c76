pub mod Faults
pub mod Layouts
pub mod Code
pub mod Images
