-- Bands of a picture: some of its rows, of full width.
--
--   band p y n              the n rows of p from row y on
--   bands p y heights       bands of these heights, one below the other, from row y on
use Rattle.std.specs.Prelude.{ℕ, ◌+◌, List, [], ◌∷◌}
use Rattle.iiif_pixel.specs.Picture.{Picture}
use Rattle.iiif_pixel.specs.Operations.{crop}
use Rattle.iiif_pixel.specs.Laws.{rows_from}

-- a band is a picture of its own: p, cropped to these rows
abbrev pub band : Picture → ℕ → ℕ → Picture
band p y n = crop p (rows_from p y n)

-- each band begins in the row below the last one of the band before
abbrev pub bands : Picture → ℕ → List ℕ → List Picture
bands p y [] = []
bands p y (n ∷ ns) = band p y n ∷ bands p (y + n) ns
