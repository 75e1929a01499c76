use Rattle.std.proofs.Common.{◌≡◌, ◌+◌, ◌-◌, ◌%◌, ◌<◌, ◌≤◌}
use Rattle.iiif_tiff_read.specs.Code.{AreEven}
use Rattle.iiif_tiff_read.specs.Images.{image_units}
use Rattle.iiif_tiff_read.proofs.image.Image.even_rows.Given as goal

abbrev pub invariant-loop-rows : goal.invariant-loop-rows
invariant-loop-rows l = (0 < l.rows) × (l.rows ≤ l.most) × AreEven (image_units l.self) l.x l.y l.rows
    × (l.rows < l.most → (l.y + l.rows) % l.self.grid.height ≡ 0)

abbrev pub decreases-loop-rows : goal.decreases-loop-rows
decreases-loop-rows l = l.most - l.rows
