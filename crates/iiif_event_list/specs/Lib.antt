pub mod Texts
pub mod Spellings
pub mod Settings
pub mod Described
pub mod Replays
pub mod Code
