mod FlipLemmas
mod StableLemmas
mod ShownLemmas
mod ServedLemmas
