-- Pictures of the worked examples, and words that build them.
use Rattle.std.specs.Prelude.{ℕ, Bool, List, [], ◌∷◌}
use Rattle.iiif_pixel.specs.Picture.{Picture}
use Rattle.iiif_pixel.specs.declared.geometry.Dim.{Dim}
use Rattle.iiif_pixel.specs.declared.geometry.Rect.{Rect}
use Rattle.iiif_pixel.specs.declared.geometry.Turn.{Turn}

-- a width and a height
abbrev pub sides : ℕ → ℕ → Dim
sides w h = record { w = w; h = h }

-- a left column, an upper row, a width and a height
abbrev pub at : ℕ → ℕ → ℕ → ℕ → Rect
at x y w h = record { x = x; y = y; w = w; h = h }

-- mirrored or not, and then so many quarters clockwise
abbrev pub by_quarters : Bool → ℕ → Turn
by_quarters mirror quarters = record { mirror = mirror; quarters = quarters }

-- a gray picture and an RGB picture of 8 bits a sample
abbrev pub gray_8 : ℕ → ℕ → List ℕ → Picture
gray_8 w h samples = record { width = w; height = h; channels = 1; top = 255; samples = samples }

abbrev pub rgb_8 : ℕ → ℕ → List ℕ → Picture
rgb_8 w h samples = record { width = w; height = h; channels = 3; top = 255; samples = samples }

-- the two kinds with 16 bits a sample
abbrev pub gray_16 : ℕ → ℕ → List ℕ → Picture
gray_16 w h samples = record { width = w; height = h; channels = 1; top = 65535; samples = samples }

abbrev pub rgb_16 : ℕ → ℕ → List ℕ → Picture
rgb_16 w h samples = record { width = w; height = h; channels = 3; top = 65535; samples = samples }

-- gray, 4 by 4: 10 more from column to column, 40 more from row to row
abbrev pub ramp : Picture
ramp = gray_8 4 4 (0 ∷ 10 ∷ 20 ∷ 30 ∷ 40 ∷ 50 ∷ 60 ∷ 70 ∷ 80 ∷ 90 ∷ 100 ∷ 110 ∷ 120 ∷ 130 ∷ 140 ∷ 150 ∷ [])

-- the ramp at half its sides
abbrev pub half_ramp : Picture
half_ramp = gray_8 2 2 (25 ∷ 45 ∷ 105 ∷ 125 ∷ [])

-- gray, a row of four: one place is almost black, the others are black
abbrev pub speck : Picture
speck = gray_8 4 1 (0 ∷ 1 ∷ 0 ∷ 0 ∷ [])

-- RGB, a row of two: the faintest red but one, and black
abbrev pub faint_red : Picture
faint_red = rgb_8 2 1 (2 ∷ 0 ∷ 0 ∷ 0 ∷ 0 ∷ 0 ∷ [])

-- gray, a row of nine, all white
abbrev pub white_row : Picture
white_row = gray_8 9 1 (255 ∷ 255 ∷ 255 ∷ 255 ∷ 255 ∷ 255 ∷ 255 ∷ 255 ∷ 255 ∷ [])

-- gray of 16 bits, a row of two: black and white
abbrev pub deep_edge : Picture
deep_edge = gray_16 2 1 (0 ∷ 65535 ∷ [])
