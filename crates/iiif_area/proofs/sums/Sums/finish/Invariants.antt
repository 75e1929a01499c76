use Rattle.std.proofs.Common.{◌≡◌, ◌*◌}
use Rattle.iiif_pixel.specs.Geometry.{top_of}
use Rattle.iiif_pixel.specs.Depths.{values_of, depth_of, capacity_of}
use Rattle.iiif_pixel.specs.Picture.{samples_of}
use Rattle.iiif_area.proofs.FinishLaws.{made_at}
use Rattle.iiif_area.proofs.sums.Sums.finish.Given as goal

-- the rows so far
abbrev pub invariant-loop-y : goal.invariant-loop-y
invariant-loop-y l = record {
  values : values_of l.samples ≡ samples_of l.rect.w l.y l.self.channels (made_at l.self l.fn.region (top_of l.fn.depth) l.rect);
  depth : depth_of l.samples ≡ l.fn.depth;
  capacity : capacity_of l.samples ≡ l.run * l.rect.h;
}
