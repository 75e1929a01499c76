-- Which address of a node is asked.
use Rattle.std.specs.Prelude.{ℕ, ◌+◌, ◌==◌, nat_lt, length, if◌then◌else◌}
use Rattle.iiif_peer_link.specs.declared.addresses.Addresses.{Addresses}

-- the place behind this one, and behind the last the first
abbrev pub next_place : ℕ → ℕ → ℕ
next_place place count = if nat_lt (place + 1) count then place + 1 else 0

-- an ask of the address at a place failed: the next one is asked, unless another one is already
abbrev pub left_at : Addresses → ℕ → Addresses
left_at a place = if a.place == place then record a { place = next_place place (length a.found.items) } else a
