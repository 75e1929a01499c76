pub mod Pictures
pub mod Files
pub mod Requests
pub mod Keys
pub mod Caches
pub mod Messages
pub mod Settings
pub mod Replies
