pub mod Least
pub mod Names
pub mod Next
pub mod Owners
pub mod Table
