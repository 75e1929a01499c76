-- A layout in its file, where callers read rectangles.
--   FitsIn   its strips or tiles lie in the file, as `open` finds
--   dim_of   its sides
use Rattle.std.specs.Prelude.{ℕ, ◌+◌, ◌<◌, ◌≤◌, length, slice_index}
use Rattle.iiif_pixel.specs.declared.geometry.Dim.{Dim}
use Rattle.iiif_tiff.specs.Tiff.{Scheme, piece_bytes}

-- Each strip or tile ends within a file of n bytes.
abbrev pub FitsIn : Scheme → ℕ → Type 0
FitsIn s n = (i : ℕ) → i < length s.offsets → slice_index s.offsets i + piece_bytes s i ≤ n

-- The width and the height of the image.
abbrev pub dim_of : Scheme → Dim
dim_of s = record { w = s.width; h = s.height }
