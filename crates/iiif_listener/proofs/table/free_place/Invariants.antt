use Rattle.std.proofs.Common.{◌≡◌, ℕ, ◌<◌, false}
use Rattle.iiif_listener.specs.Places.{at, is_free}
use Rattle.iiif_listener.proofs.table.free_place.Given as goal

-- none of those so far
abbrev pub invariant-loop-place : goal.invariant-loop-place
invariant-loop-place l = (i : ℕ) → i < l.place → is_free (at l.seats i).standing ≡ false
