pub mod ItemLemmas
pub mod ShownLemmas
pub mod NamedLemmas
pub mod FaultLemmas
