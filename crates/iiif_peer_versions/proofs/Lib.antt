mod DigitLemmas
mod KeyLemmas
