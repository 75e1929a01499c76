pub mod RowLemmas
pub mod StepLemmas
pub mod TileLemmas
pub mod FaultLemmas
pub mod KeptLemmas
pub mod WholeLemmas
