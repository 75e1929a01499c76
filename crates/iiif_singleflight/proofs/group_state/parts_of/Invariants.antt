use Rattle.std.proofs.Common.{◌≡◌, take}
use Rattle.std.specs.List.{sum_by}
use Rattle.iiif_singleflight.proofs.group_state.parts_of.Given as goal

abbrev pub invariant-loop-pass : goal.invariant-loop-pass
invariant-loop-pass g l = l.parts ≡ sum_by (λ p. p.parts) (take l.pass-index l.passes)
