use Rattle.std.proofs.Common.{◌≡◌, ℕ, List, length, arith, ap, ◌∙◌}
use Rattle.std.proofs.lemmas.List.{with_items_is}
use Rattle.iiif_pixel.specs.Geometry.{channels_of}
use Rattle.iiif_area.specs.Grid.{Grid}
use Rattle.iiif_area.proofs.AddingLaws.{tile_merged}
use Rattle.iiif_area.proofs.SumsSeen.{seen}
use Rattle.iiif_area.proofs.sums.Sums.add_tile.Goals as goal

pub returns-clause-sums : goal.returns-clause-sums
returns-clause-sums c = λ p e.
    let inside = c.self.inside in
    let s = seen inside c.args.self.now c.self.view_is c.self.invariant in
    let G : List ℕ → Grid = λ sums. record { rect = inside.rect; channels = channels_of inside.kind; sums = sums } in
    let long : length c.add_part.new.sums ≡ inside.sums.len =
    omega (arith, c.add_part.auto.sums, ap length c.deref_mut.ensures.value, inside.sums.ok.0, inside.sums.ok.1) in
    ap G (with_items_is inside.sums c.add_part.new.sums long)
    ∙ tile_merged p c.args.at c.args.region c.args.size c.args.self.now _ _ _ _ c.new-share.result c.args.tile.now
    s.rect s.channels (c.deref_mut.ensures.value ∙ s.sums) c.requires.kind c.new-share.ensures e c.add_part.ensures
