pub mod EscapeLemmas
pub mod LineLemmas
pub mod QueueLemmas
