mod JobLemmas
mod StreamLemmas
mod SendingLemmas
mod PeerLemmas
