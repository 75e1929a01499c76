use Rattle.std.proofs.Common.{◌≡◌, ◌∙◌, subst}
use Rattle.std.specs.List.{AllZip}
use Rattle.rayon.proofs.ListFacts.{IfOk-then}
use Rattle.rayon.proofs.ToStd.{slice-AllZip}
use Rattle.iiif_area.specs.Grid.{average_within}
use Rattle.iiif_assemble.proofs.finishing.rounded_sixteen.Goals as goal

pub returns : goal.returns
returns g c =
    let slice : c.with_min_len.result.base.slice.now ≡ c.args.sums.now = rw c.with_min_len.ensures.base c.par_iter.ensures in
    IfOk-then c.collect.result _ _ c.collect.ensures (λ v h.
    let chain = rw (c.map.ensures.base, c.map.ensures.f) at h.1 in
    let made = slice-AllZip chain.0 c.args.sums.now (chain.1 ∙ slice) (λ s b. b ≡ average_within c.new-averager.result 65535 s) h.0 chain.2
    in
    rw h.2 (subst (λ area. AllZip (λ s b. b ≡ average_within area 65535 s) c.args.sums.now h.0) c.new-averager.ensures made))
