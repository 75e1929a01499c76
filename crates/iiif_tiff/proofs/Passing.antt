-- Lemmas on files that no check refuses: their channels and their sides.
use Rattle.std.proofs.Common.{◌≡◌, ◌≢◌, ℕ, ◌*◌, ◌<◌, ◌^◌, ◌⊎◌, Bool, true, false, List, Option, Some, None, refl, sym, inl, inr, ltb, ◌==◌}
use Rattle.std.proofs.Common.{◌||◌, not, arith}
use Rattle.std.proofs.lemmas.Bool.{eqb-true, eqb-false, ltb-false}
use Rattle.iiif_tiff.specs.Tiff as tiff
use Rattle.iiif_tiff.specs.Tiff.{Refusal, ◌<|>◌, line, channels, AcceptedIsReadable}

-- The first of two checks passes where both do.
pub first_passes : (a b : Option Refusal) → a <|> b ≡ None → a ≡ None
first_passes None b e = refl
first_passes (Some r) b e = e

-- The second of two checks passes where both do.
pub rest_passes : (a b : Option Refusal) → a <|> b ≡ None → b ≡ None
rest_passes None b e = e
rest_passes (Some r) b e = search e

-- A check that passes has a condition that doesn't apply.
pub line_passes : (b : Bool) (r : Refusal) → line b r ≡ None → b ≡ false
line_passes true r e = search e
line_passes false r e = refl

-- One of two conditions holds where it isn't so that neither does.
either_of : (a b : Bool) → not (a || b) ≡ false → (a ≡ true) ⊎ (b ≡ true)
either_of true b e = inl refl
either_of false true e = inr refl
either_of false false e = inl (sym e)

-- A file that no check refuses has one channel, or three.
pub channels_pass : (bytes : List ℕ) → tiff.refusal_of bytes ≡ None → (channels bytes ≡ 1) ⊎ (channels bytes ≡ 3)
unfolding tiff.refusal_of tiff.samples tiff.samples_per_pixel
channels_pass bytes e =
    let from_sides : tiff.sides bytes <|> tiff.samples bytes <|> tiff.grid bytes <|> tiff.pieces_fit bytes ≡ None =
    rest_passes (tiff.opening bytes) _ e in
    let from_samples : tiff.samples bytes <|> tiff.grid bytes <|> tiff.pieces_fit bytes ≡ None =
    rest_passes (tiff.sides bytes) _ from_sides in
    let samples : tiff.samples bytes ≡ None = first_passes (tiff.samples bytes) _ from_samples in
    let per_pixel : tiff.samples_per_pixel bytes ≡ None = first_passes (tiff.samples_per_pixel bytes) _ samples in
    let values : line (channels bytes == 0) (tiff.BadField tiff.SamplesPerPixel) <|> line (not (channels bytes == 1 || channels bytes == 3))
    (tiff.Unsupported tiff.SamplesPerPixel) ≡ None
    = rest_passes (tiff.optional bytes tiff.SamplesPerPixel tiff.one) _ per_pixel in
    let last : line (not (channels bytes == 1 || channels bytes == 3)) (tiff.Unsupported tiff.SamplesPerPixel) ≡ None
    = rest_passes (line (channels bytes == 0) (tiff.BadField tiff.SamplesPerPixel)) _ values in
    elim (either_of (channels bytes == 1) (channels bytes == 3) (line_passes _ _ last)) [
      | inl one ↦ inl (eqb-true _ _ one)
      | inr three ↦ inr (eqb-true _ _ three)
    ]

-- Five conditions among the checks of two fields don't apply where all checks pass.
lines_pass : (a b : Option Refusal) (p q r s t : Bool) (n m l : Refusal) →
    a <|> line p n <|> line q l <|> b <|> line r m <|> line s l <|> line t l ≡ None
    → (p ≡ false) × (q ≡ false) × (r ≡ false) × (s ≡ false) × (t ≡ false)
lines_pass a b p q r s t n m l e =
    let width = rest_passes a (line p n <|> line q l <|> b <|> line r m <|> line s l <|> line t l) e in
    let most = rest_passes (line p n) (line q l <|> b <|> line r m <|> line s l <|> line t l) width in
    let height = rest_passes b (line r m <|> line s l <|> line t l) (rest_passes (line q l) (b <|> line r m <|> line s l <|> line t l) most)
    in
    let last = rest_passes (line r m) (line s l <|> line t l) height in (
      line_passes p n (first_passes _ _ width),
      line_passes q l (first_passes _ _ most),
      line_passes r m (first_passes _ _ height),
      line_passes s l (first_passes _ _ last),
      line_passes t l (rest_passes (line s l) _ last),
    )

-- A number that isn't 0 is above 0.
positive : (n : ℕ) → n ≢ 0 → 0 < n
positive n some = omega arith

-- A file that no check refuses has sides within the limits.
pub readable : AcceptedIsReadable
unfolding tiff.refusal_of tiff.sides
readable bytes e =
    let checks = rest_passes (tiff.opening bytes) _ e in
    let sides : tiff.sides bytes ≡ None = first_passes (tiff.sides bytes) _ checks in
    let w = tiff.width bytes in
    let h = tiff.height bytes in
    let no = lines_pass (tiff.needed bytes tiff.ImageWidth tiff.one) (tiff.needed bytes tiff.ImageLength tiff.one) (w == 0) (ltb 1000000 w)
    (h == 0) (ltb 1000000 h) (ltb (2 ^ 32) (w * h))
    (tiff.BadField tiff.ImageWidth) (tiff.BadField tiff.ImageLength) tiff.TooLarge sides in
    record {
      width_some = positive w (eqb-false w 0 no.0);
      width_most = ltb-false 1000000 w no.1;
      height_some = positive h (eqb-false h 0 no.2);
      height_most = ltb-false 1000000 h no.3;
      area = ltb-false (2 ^ 32) (w * h) no.4;
    }
