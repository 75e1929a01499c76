pub mod AnswerHeads
pub mod Code
pub mod Laws
pub mod Methods
pub mod Reading
pub mod RequestHeads
pub mod Statuses
