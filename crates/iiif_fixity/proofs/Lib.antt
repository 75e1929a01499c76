pub mod Checking
pub mod Feeding
pub mod Folders
pub mod Lawful
pub mod Lines
pub mod Listing
pub mod WholeFiles
