use Rattle.std.proofs.Common.{◌≡◌, ℕ, ◌*◌, List, ap, ◌∙◌, rules}
use Rattle.iiif_pixel.specs.Geometry.{channels_of}
use Rattle.iiif_pixel.proofs.SampleLists.{samples_of-const}
use Rattle.iiif_area.specs.Grid.{Grid}
use Rattle.iiif_area.proofs.sums.Sums.zero.Goals as goal

pub returns : goal.returns
returns c =
    let r = c.args.rect in
    let Q : List ℕ → Grid = λ s. record { rect = r; channels = channels_of c.args.kind; sums = s } in
    let n : c.in-Some.count ≡ r.w * r.h * channels_of c.args.kind = rw c.dim.ensures at c.in-Some.ensures.1 in
    ap Q (c.in_ok-vec.ensures.items_if_clones_equal (search rules) ∙ rw n (samples_of-const r.w r.h (channels_of c.args.kind) 0))
