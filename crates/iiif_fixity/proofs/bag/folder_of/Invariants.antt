use Rattle.std.proofs.Common.{ℕ, ◌<◌, ◌≤◌, length}
use Rattle.std.specs.Prelude.{◌≢◌, slice_index}
use Rattle.iiif_fixity.proofs.bag.folder_of.Given as goal

-- behind the length there is no slash
abbrev pub invariant-loop-len : goal.invariant-loop-len
invariant-loop-len l = record {
  within : l.len ≤ length l.path;
  name : (i : ℕ) → l.len ≤ i → i < length l.path → slice_index l.path i ≢ 47;
}

abbrev pub decreases-loop-len : goal.decreases-loop-len
decreases-loop-len l = l.len
