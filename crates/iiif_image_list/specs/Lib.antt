pub mod Folders
pub mod Lists
