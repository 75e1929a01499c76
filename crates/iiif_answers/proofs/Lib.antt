mod BaseUrlLemmas
mod SettingsLemmas
mod OutcomeLemmas
mod NameLemmas
mod ReplyLemmas
mod SilenceLemmas
mod MessageLemmas
pub mod AllowedLemmas
mod PlainLemmas
mod DeviceLemmas
