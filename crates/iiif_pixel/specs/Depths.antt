-- Sample buffers of either depth, as numbers.
--
--   values_of, span_values   the samples of a buffer, of a borrowed run
--   depth_of, span_depth     their bits per sample
--   capacity_of              the number of samples that a buffer has room for
use Rattle.std.specs.Prelude.{ℕ, List, vec_capacity}
use Rattle.iiif_pixel.specs.declared.geometry.Depth.{Depth}
use Rattle.iiif_pixel.specs.declared.geometry.Depth.TheVariants.{Eight, Sixteen}
use Rattle.iiif_pixel.specs.declared.depths.Samples.{Samples}
use Rattle.iiif_pixel.specs.declared.depths.Samples.TheVariants as owned
use Rattle.iiif_pixel.specs.declared.depths.Span.{Span}
use Rattle.iiif_pixel.specs.declared.depths.Span.TheVariants as borrowed

-- the samples of a buffer
abbrev pub values_of : Samples → List ℕ
values_of (owned.Eight v) = v.items
values_of (owned.Sixteen v) = v.items

-- the bits per sample of a buffer
abbrev pub depth_of : Samples → Depth
depth_of (owned.Eight v) = Eight
depth_of (owned.Sixteen v) = Sixteen

-- the number of samples that a buffer has room for
abbrev pub capacity_of : Samples → ℕ
capacity_of (owned.Eight v) = vec_capacity v
capacity_of (owned.Sixteen v) = vec_capacity v

-- the samples of a borrowed run
abbrev pub span_values : Span → List ℕ
span_values (borrowed.Eight s) = s.now
span_values (borrowed.Sixteen s) = s.now

-- the bits per sample of a borrowed run
abbrev pub span_depth : Span → Depth
span_depth (borrowed.Eight s) = Eight
span_depth (borrowed.Sixteen s) = Sixteen
