-- Laws of all pictures: the contracts of the functions of the module `laws`.
--
--   CropOfCrop                  a crop of a crop is one crop
--   QualityOfCrop               quality and crop commute
--   CropOfScale, SampleOfScale  a crop of a scaled picture has the averages at its places
--   rows_from                   n rows of a picture, as a rectangle
--   RowsAfterRows, AllRows      bands follow one another, and all rows are the picture
--   CropIsWhole, TurnIsWhole, QualityIsWhole, ScaleIsWhole
--                               each operation keeps a picture whole
use Rattle.std.specs.Prelude.{◌≡◌, ℕ, ◌+◌, ◌<◌, ◌++◌}
use Rattle.iiif_pixel.specs.Geometry.{LiesIn, sides_of, nested}
use Rattle.iiif_pixel.specs.Picture.{Picture, IsWhole, dim_of, picture_of, sample_at}
use Rattle.iiif_pixel.specs.Operations.{crop, turn, quality}
use Rattle.iiif_pixel.specs.Scaling.{scale, scaled_at}
use Rattle.iiif_pixel.specs.declared.geometry.Dim.{Dim}
use Rattle.iiif_pixel.specs.declared.geometry.Rect.{Rect}
use Rattle.iiif_pixel.specs.declared.geometry.Turn.{Turn}
use Rattle.iiif_pixel.specs.declared.geometry.Quality.{Quality}

-- a part of a part is a part of the whole
abbrev pub CropOfCrop : Type 0
CropOfCrop = (p : Picture) (a b : Rect) → LiesIn b (sides_of a) → crop (crop p a) b ≡ crop p (nested a b)

-- The quality of a part is the part of the quality. A picture without channels is left out: it has no gray value to show.
abbrev pub QualityOfCrop : Type 0
QualityOfCrop =
    (p : Picture) (r : Rect) (q : Quality) → 0 < p.channels → LiesIn r (dim_of p) → quality (crop p r) q ≡ crop (quality p q) r

-- a part of a scaled picture is the picture of the averages at its places
abbrev pub CropOfScale : Type 0
CropOfScale =
    (p : Picture) (size : Dim) (r : Rect) → LiesIn r size →
    crop (scale p size) r ≡ picture_of r.w r.h p.channels p.top (λ i j k. scaled_at p size (r.x + i) (r.y + j) k)

-- a part of a scaled picture has the average at each of its places
abbrev pub SampleOfScale : Type 0
SampleOfScale =
    (p : Picture) (size : Dim) (r : Rect) (i j k : ℕ) → LiesIn r size → i < r.w → j < r.h → k < p.channels →
    sample_at (crop (scale p size) r) i j k ≡ scaled_at p size (r.x + i) (r.y + j) k

-- the rows from `from` on, n of them
abbrev pub rows_from : Picture → ℕ → ℕ → Rect
rows_from p from n = record { x = 0; y = from; w = p.width; h = n }

-- m rows of a picture, and then the n rows after them, are the m + n rows
abbrev pub RowsAfterRows : Type 0
RowsAfterRows =
    (p : Picture) (from m n : ℕ) → (crop p (rows_from p from (m + n))).samples ≡ (crop p (rows_from p from m)).samples ++
    (crop p (rows_from p (from + m) n)).samples

-- all rows are the picture
abbrev pub AllRows : Type 0
AllRows = (p : Picture) → IsWhole p → crop p (rows_from p 0 p.height) ≡ p

-- a part of a whole picture is whole
abbrev pub CropIsWhole : Type 0
CropIsWhole = (p : Picture) (r : Rect) → IsWhole p → IsWhole (crop p r)

-- a whole picture, turned, is whole
abbrev pub TurnIsWhole : Type 0
TurnIsWhole = (p : Picture) (t : Turn) → IsWhole p → IsWhole (turn p t)

-- a whole picture in another quality is whole
abbrev pub QualityIsWhole : Type 0
QualityIsWhole = (p : Picture) (q : Quality) → IsWhole p → IsWhole (quality p q)

-- a whole picture, scaled, is whole
abbrev pub ScaleIsWhole : Type 0
ScaleIsWhole = (p : Picture) (size : Dim) → IsWhole p → IsWhole (scale p size)
