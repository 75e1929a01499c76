use Rattle.std.proofs.Common.{◌-◌, ◌≤◌}
use Rattle.iiif_tiff_read.specs.Images.{image_units}
use Rattle.iiif_tiff_read.proofs.Places.{Filled}
use Rattle.iiif_tiff_read.proofs.image.Image.fill.Given as goal

abbrev pub invariant-loop-top : goal.invariant-loop-top
invariant-loop-top g l = (l.top ≤ l.rect.h)
    × (g.S.Source.keeps l.source → Filled (g.S.Source.bytes l.source) (image_units l.self) l.rect l.top 0 0 l.samples)

abbrev pub decreases-loop-top : goal.decreases-loop-top
decreases-loop-top g l = l.rect.h - l.top

abbrev pub invariant-loop-left : goal.invariant-loop-left
invariant-loop-left g l = (l.left ≤ l.rect.w)
    × (g.S.Source.keeps l.source → Filled (g.S.Source.bytes l.source) (image_units l.self) l.rect l.top l.rows l.left l.samples)

abbrev pub decreases-loop-left : goal.decreases-loop-left
decreases-loop-left g l = l.rect.w - l.left
