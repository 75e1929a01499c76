use Rattle.std.proofs.Common.{◌≡◌, take}
use Rattle.iiif_assemble.specs.Kept.{kept_len}
use Rattle.iiif_assemble.proofs.kept.count_kept.Given as goal

-- those so far
abbrev pub invariant-loop-sum : goal.invariant-loop-sum
invariant-loop-sum l = l.count ≡ kept_len (take l.sum-index l.kept)
