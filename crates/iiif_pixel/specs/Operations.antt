-- The API's region, rotation and quality, place by place.
--
--   crop                          region: the part in a rectangle
--   mirrored, quarter_turned      rotation: `!`, and 90 degrees clockwise
--   turned_by, turn               rotation by quarters, and the whole of it: mirrored first, then rotated
--   turned_width, turned_height   sides after a rotation
--   gray_of, gray_at              gray value of a colour, of a place
--   black_or_white                a gray value, thresholded
--   gray, bitonal, quality        quality: `gray`, `bitonal`, any of the four
use Rattle.std.specs.Prelude.{ℕ, ◌+◌, ◌-◌, ◌*◌, ◌/◌, ◌%◌, if◌then◌else◌, ◌==◌, nat_lt}
use Prim.Native.Nat.{zero, suc}
use Rattle.iiif_pixel.specs.Picture.{Picture, picture_of, sample_at}
use Rattle.iiif_pixel.specs.declared.geometry.Rect.{Rect}
use Rattle.iiif_pixel.specs.declared.geometry.Turn.{Turn}
use Rattle.iiif_pixel.specs.declared.geometry.Quality.{Quality}
use Rattle.iiif_pixel.specs.declared.geometry.Quality.TheVariants.{Default, Color, Gray, Bitonal}

-- the sample of the part of p in a rectangle, in column x, row y and channel k of the part
unfoldable pub crop_at : Picture → Rect → ℕ → ℕ → ℕ → ℕ
crop_at p r x y k = sample_at p (r.x + x) (r.y + y) k

-- The part of p in a rectangle: IIIF Image API 3.0, section 4.1 (region).
abbrev pub crop : Picture → Rect → Picture
crop p r = picture_of r.w r.h p.channels p.top (crop_at p r)

-- p mirrored on its vertical axis: IIIF Image API 3.0, section 4.3 (rotation, `!`).
abbrev pub mirrored : Picture → Picture
mirrored p = picture_of p.width p.height p.channels p.top (λ x y k. sample_at p (p.width - 1 - x) y k)

-- p rotated clockwise by one quarter: IIIF Image API 3.0, section 4.3 (rotation, 90).
abbrev pub quarter_turned : Picture → Picture
quarter_turned p = picture_of p.height p.width p.channels p.top (λ x y k. sample_at p y (p.height - 1 - x) k)

-- p rotated clockwise by so many quarters: section 4.3, 0, 90, 180 and 270 degrees
abbrev pub turned_by : ℕ → Picture → Picture
turned_by zero p = p
turned_by (suc n) p = quarter_turned (turned_by n p)

-- p mirrored first, if the turn says so, and then rotated: IIIF Image API 3.0, section 4.3 (rotation).
abbrev pub turn : Picture → Turn → Picture
turn p t = turned_by t.quarters (if t.mirror then mirrored p else p)

-- the width after so many quarters of a picture w by h: an odd number swaps the sides
abbrev pub turned_width : ℕ → ℕ → ℕ → ℕ
turned_width quarters w h = if quarters % 2 == 0 then w else h

-- and the height
abbrev pub turned_height : ℕ → ℕ → ℕ → ℕ
turned_height quarters w h = if quarters % 2 == 0 then h else w

-- The weighted mean of red, green and blue, to the nearest whole number, a half up; the weights are those of TIFF 6.0,
-- section 21 (0.299, 0.587, 0.114).
abbrev pub gray_of : ℕ → ℕ → ℕ → ℕ
gray_of r g b = (299 * r + 587 * g + 114 * b + 500) / 1000

-- the gray value at a place: the mean of the three, or the sample itself
unfoldable pub gray_at : Picture → ℕ → ℕ → ℕ → ℕ
gray_at p x y k =
    if p.channels == 3 then gray_of (sample_at p x y 0) (sample_at p x y 1) (sample_at p x y 2) else sample_at p x y 0

-- black (0) or white (255), as a gray value is in the lower or the upper half of 0 to top
abbrev pub black_or_white : ℕ → ℕ → ℕ
black_or_white top v = if nat_lt v ((top + 1) / 2) then 0 else 255

-- p in grayscale: IIIF Image API 3.0, section 4.4 (quality, `gray`).
abbrev pub gray : Picture → Picture
gray p = picture_of p.width p.height 1 p.top (gray_at p)

-- p with each place black or white: IIIF Image API 3.0, section 4.4 (quality, `bitonal`).
abbrev pub bitonal : Picture → Picture
bitonal p = picture_of p.width p.height 1 255 (λ x y k. black_or_white p.top (gray_at p x y k))

-- p in another quality: IIIF Image API 3.0, section 4.4 (quality). A gray picture has no colours to restore, and the default
-- quality of a picture is its own.
abbrev pub quality : Picture → Quality → Picture
quality p Default = p
quality p Color = p
quality p Gray = gray p
quality p Bitonal = bitonal p
