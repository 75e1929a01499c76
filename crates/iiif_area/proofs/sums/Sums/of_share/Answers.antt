use Rattle.std.proofs.Common.{ℕ, List, ap, ◌∙◌}
use Rattle.iiif_pixel.specs.declared.geometry.Rect.{Rect}
use Rattle.iiif_pixel.proofs.SampleLists.{length-samples_of}
use Rattle.iiif_area.specs.Code.{share_sum, share_sums}
use Rattle.iiif_area.specs.Grid.{Grid, grid_of}
use Rattle.iiif_area.proofs.sums.Sums.of_share.Goals as goal

pub invariant_of-result : goal.invariant_of-result
invariant_of-result c = rw (c.in_ok-sums.ensures, c.kind.ensures) (length-samples_of _ _ _ _)

pub returns-clause-sums : goal.returns-clause-sums
unfolding share_sums
returns-clause-sums c =
    let p = c.args.tile.now in
    let P : ℕ → List ℕ → Grid = λ n s. record { rect = c.places_of-rect.result; channels = n; sums = s } in
    ap (λ n. P n c.in_ok-sums.sums.items) c.kind.ensures
    ∙ ap (P p.channels) c.in_ok-sums.ensures
    ∙ ap (λ (q : Rect). grid_of q p.channels (λ i j k. share_sum p c.args.share i j k)) c.places_of-rect.ensures.places
