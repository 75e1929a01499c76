-- Sizes of a result: IIIF Image API 3.0, section 4.2.
--
-- `fit a b p q`: the largest size of the shape a by b within p by q. `largest a b limits`: the size of `max`.
-- `asked_of`: the sides that a size asks for. `checked`: those sides, or the first refusal. `size_of`: the size of the result.
use Rattle.std.specs.Prelude.{ℕ, ◌*◌, ◌^◌, Bool, false, ◌&&◌, ◌||◌, not, min, nat_lt, nat_le, if◌then◌else◌, Result, Ok, Err, ◌==◌}
use Rattle.iiif_pixel.specs.declared.geometry.Dim.{Dim}
use Rattle.iiif_request.specs.declared.request.Form.{Form}
use Rattle.iiif_request.specs.declared.request.Form.TheVariants.{Max, Width, Height, Percent, Both, Within}
use Rattle.iiif_request.specs.declared.request.Size.{Size}
use Rattle.iiif_request.specs.declared.request.Refusal.{Refusal}
use Rattle.iiif_request.specs.declared.request.Refusal.TheVariants.{Zero, Larger, Upscale, Limit}
use Rattle.iiif_canonical.specs.Rounding.{round, percent_of}
use Rattle.iiif_canonical.specs.declared.resolved.Limits.{Limits}

-- section 4.2, `!w,h`: the largest size within p by q that has the shape of a region a by b
unfoldable pub fit : ℕ → ℕ → ℕ → ℕ → ℕ × ℕ
fit a b p q = if nat_le (p * b) (q * a) then (p, round (b * p) a) else (round (a * q) b, q)

-- section 4.2, `max`: the region's own sides where they are within the limits, else what fits them
unfoldable pub largest : ℕ → ℕ → Limits → ℕ × ℕ
largest a b l = if nat_le a l.max_w && nat_le b l.max_h then (a, b) else fit a b l.max_w l.max_h

-- section 4.2: the sides that a size asks for, of a region a by b; `up`: with `^` in front
unfoldable pub asked_of : Bool → Form → ℕ → ℕ → Limits → ℕ × ℕ
asked_of up Max a b l = if up then fit a b l.max_w l.max_h else largest a b l
asked_of up (Width w) a b l = (w, round (b * w) a)
asked_of up (Height h) a b l = (round (a * h) b, h)
asked_of up (Percent n) a b l = (percent_of a n, percent_of b n)
asked_of up (Both w h) a b l = (w, h)
asked_of up (Within w h) a b l =
    let p = min w l.max_w in
    let q = min h l.max_h in
    if up then fit a b p q else fit a b (min p a) (min q b)

-- section 4.2, `pct:n`: more than a hundred percent
abbrev pub is_above_hundred : Form → Bool
is_above_hundred Max = false
is_above_hundred (Width w) = false
is_above_hundred (Height h) = false
is_above_hundred (Percent n) = nat_lt (100 * 10 ^ n.places) n.digits
is_above_hundred (Both w h) = false
is_above_hundred (Within w h) = false

-- section 4.2: a side is above that of a region a by b
abbrev pub is_larger : ℕ → ℕ → ℕ × ℕ → Bool
is_larger a b s = nat_lt a s.0 || nat_lt b s.1

-- sections 4.2 and 5.3: a side is above its limit, `maxWidth` or `maxHeight`
abbrev pub is_above_limits : Limits → ℕ × ℕ → Bool
is_above_limits l s = nat_lt l.max_w s.0 || nat_lt l.max_h s.1

-- section 4.2: the sides, or the first refusal, in this order; `above`: more than a hundred percent were asked for. A side above the
-- region's needs the `^`, and a server that scales up.
unfoldable pub checked : Bool → Bool → ℕ → ℕ → Limits → ℕ × ℕ → Result Dim Refusal
checked up above a b l s =
    if s.0 == 0 || s.1 == 0 then Err Zero else (
    if not up && (is_larger a b s || above) then Err Larger else (
    if up && not l.upscale && is_larger a b s then Err Upscale else (
    if is_above_limits l s then Err Limit else
    Ok (record { w = s.0; h = s.1 }))))

-- section 4.2: the size of the result, of a region a by b
unfoldable pub size_of : Size → ℕ → ℕ → Limits → Result Dim Refusal
size_of s a b l = checked s.up (is_above_hundred s.form) a b l (asked_of s.up s.form a b l)
