mod Names
mod OpenedLemmas
mod SourceLemmas
