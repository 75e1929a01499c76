mod Broken
pub mod Cut
mod ExchangeLemmas
pub mod Only
pub mod Parts
pub mod Taken
pub mod Whole
mod Wanted
