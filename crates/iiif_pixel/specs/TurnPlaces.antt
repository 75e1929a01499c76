-- Places under a turn: IIIF Image API 3.0, section 4.3 (rotation).
--
--   turned_dim                   the sides after a turn
--   mirrored_column              a column, counted from the right if mirrored
--   quarter_place, place_after   a place after one quarter, after so many
--   turned_place                 a place after a turn
--   MovesTo                      a turn moves the sample of one place to another, in every picture
--   TurnsInto                    a turn makes one part of another, in every picture
use Rattle.std.specs.Prelude.{◌≡◌, ℕ, ◌-◌, ◌<◌, Bool, if◌then◌else◌}
use Prim.Native.Nat.{zero, suc}
use Rattle.iiif_pixel.specs.Picture.{Picture, sample_at}
use Rattle.iiif_pixel.specs.Operations.{crop, turn, turned_width, turned_height}
use Rattle.iiif_pixel.specs.declared.geometry.Dim.{Dim}
use Rattle.iiif_pixel.specs.declared.geometry.Rect.{Rect}
use Rattle.iiif_pixel.specs.declared.geometry.Turn.{Turn}

-- the sides d, turned
abbrev pub turned_dim : Turn → Dim → Dim
turned_dim t d = record { w = turned_width t.quarters d.w d.h; h = turned_height t.quarters d.w d.h }

-- column x of w, which a mirroring on the vertical axis counts from the right
abbrev pub mirrored_column : Bool → ℕ → ℕ → ℕ
mirrored_column mirror w x = if mirror then w - 1 - x else x

-- one quarter clockwise sends place (x, y) of a picture of height h to (h - 1 - y, x)
abbrev pub quarter_place : ℕ → ℕ × ℕ → ℕ × ℕ
quarter_place h a = (h - 1 - a.1, a.0)

-- a place of a picture w by h after so many quarters
abbrev pub place_after : ℕ → ℕ → ℕ → ℕ × ℕ → ℕ × ℕ
place_after zero w h a = a
place_after (suc n) w h a = quarter_place (turned_height n w h) (place_after n w h a)

-- place (x, y) of a picture with the sides d after a turn: mirrored first, where the turn says so, and then turned
abbrev pub turned_place : Turn → Dim → ℕ → ℕ → ℕ × ℕ
turned_place t d x y = place_after t.quarters d.w d.h (mirrored_column t.mirror d.w x, y)

-- every picture with the sides d, turned, has at (i, j) what it had at (x, y)
abbrev pub MovesTo : Turn → Dim → ℕ → ℕ → ℕ → ℕ → Type 0
MovesTo t d x y i j =
    (p : Picture) (k : ℕ) → p.width ≡ d.w → p.height ≡ d.h → k < p.channels → sample_at (turn p t) i j k ≡ sample_at p x y k

-- of every picture with the sides d, the part in `from`, turned, is the part in `to` of the turned picture
abbrev pub TurnsInto : Turn → Dim → Rect → Rect → Type 0
TurnsInto t d from to =
    (p : Picture) → p.width ≡ d.w → p.height ≡ d.h → turn (crop p from) t ≡ crop (turn p t) to
