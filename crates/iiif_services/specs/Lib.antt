pub mod Doors
pub mod Commands
