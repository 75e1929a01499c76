-- An image of 16 bits is read as one of twice as many samples of 8 bits.
use Rattle.std.proofs.Common.{◌≡◌, ◌≢◌, ℕ, ◌+◌, ◌*◌, ◌/◌, ◌%◌, ◌<◌, List, length, get_or, true, false, refl, sym, ap, ◌∙◌, inl, inr, arith}
use Rattle.std.proofs.Common.{◌==◌}
use Rattle.std.specs.Int.{div_ceil, w16}
use Rattle.std.proofs.lemmas.Bool.{cases_Bool, eqb-true, ne_eqb}
use Rattle.iiif_pixel.proofs.SampleLists.{index_below}
use Rattle.iiif_pixel.specs.declared.geometry.Rect.{Rect}
use Rattle.iiif_tiff.specs.Tiff.{Scheme, number, piece_bytes, sample_of, shown}
use Rattle.iiif_tiff.proofs.Numbers.{same_number}
use Rattle.iiif_tiff_read.specs.Layouts.{FitsIn}
use Rattle.iiif_tiff_read.specs.Code.{HoldsStored, HoldsShown, row_place, stored_at, units, units_of, unit_bits}

units_times : (n : ℕ) → units_of n * unit_bits n ≡ n
units_times n = elim (cases_Bool (n == 16)) [
  | inl sixteen ↦ rw sixteen (omega (arith, eqb-true n 16 sixteen))
  | inr other ↦ rw other (omega arith)
]

product : (w c n u b : ℕ) → u * b ≡ n → w * (c * u) * b ≡ w * c * n
product w c n u b e = rw (← e) (grind arith)

-- A row in units takes as many bytes.
pub units_row : (w c n : ℕ) → div_ceil (w * (c * units_of n) * unit_bits n) 8 ≡ div_ceil (w * c * n) 8
units_row w c n = ap (λ (m : ℕ). div_ceil m 8) (product w c n (units_of n) (unit_bits n) (units_times n))

-- Pieces in units end where they did.
pub units_fit : (s : Scheme) (n : ℕ) → FitsIn s n → FitsIn (units s) n
unfolding piece_bytes
units_fit s n fits i lt = rw (units_row s.piece_width s.channels s.bits) (fits i lt)

row_same : (s : Scheme) (x y : ℕ) → row_place (units s) x y ≡ row_place s x y
unfolding row_place
row_same s x y = rw (units_row s.piece_width s.channels s.bits) refl

-- ---- a sample of 8 bits or one

shown_unit : (bytes : List ℕ) (s : Scheme) (x y k : ℕ) → s.bits ≢ 16 →
    shown bytes s x y k ≡ sample_of s.white_is_zero 255 (stored_at bytes (units s) x y k)
unfolding shown stored_at row_place
shown_unit bytes s x y k other =
    let e : (s.bits == 16) ≡ false = ne_eqb s.bits 16 other in
    let one : s.channels * 1 ≡ s.channels = omega arith in
    rw (e, one) refl

-- Samples of 8 bits or one that are turned from stored ones are those that are shown.
pub shown_bytes : (bytes old new : List ℕ) (s : Scheme) (r : Rect) → s.bits ≢ 16 → length old ≡ r.w * r.h * (units s).channels
    → ((i : ℕ) → i < length old → get_or new i 0 ≡ sample_of s.white_is_zero 255 (get_or old i 0)) → HoldsStored bytes (units s) r old →
    HoldsShown bytes s r new
shown_bytes bytes old new s r other len is held x y k xw yh kc =
    let e : (s.bits == 16) ≡ false = ne_eqb s.bits 16 other in
    let one : s.channels * units_of s.bits ≡ s.channels = rw e (omega arith) in
    let kc' : k < (units s).channels = rw one kc in
    let below : (y * r.w + x) * s.channels + k < length old =
    omega (arith, len, one, index_below r.w r.h s.channels x y k xw yh kc, ap (λ (c : ℕ). r.w * r.h * c) one) in
    let there = ap (λ (c : ℕ). get_or old ((y * r.w + x) * c + k) 0) one in
    is ((y * r.w + x) * s.channels + k) below ∙ ap (sample_of s.white_is_zero 255) (sym there ∙ held x y k xw yh kc') ∙
    sym (shown_unit bytes s (r.x + x) (r.y + y) k other)

-- ---- a sample of 16 bits

shown_pair : (bytes : List ℕ) (s : Scheme) (x y k : ℕ) → s.bits ≡ 16 →
    shown bytes s x y k ≡ sample_of s.white_is_zero 65535
    (number s.order w16 bytes (row_place s x y + 2 * (x % s.piece_width * s.channels + k)))
unfolding shown row_place
shown_pair bytes s x y k sixteen =
    let e : (s.bits == 16) ≡ true = rw sixteen refl in
    rw e refl

stored_byte : (bytes : List ℕ) (s : Scheme) (x y j : ℕ) → s.bits ≡ 16 →
    stored_at bytes (units s) x y j ≡ get_or bytes (row_place s x y + (x % s.piece_width * (s.channels * 2) + j)) 0
unfolding stored_at
stored_byte bytes s x y j sixteen =
    let e : (s.bits == 16) ≡ true = rw sixteen refl in
    rw (row_same s x y, e) refl

twice : (a c k : ℕ) → 2 * (a * c + k) ≡ a * (c * 2) + 2 * k
twice a c k = grind arith

twice_more : (a c k : ℕ) → 2 * (a * c + k) + 1 ≡ a * (c * 2) + (2 * k + 1)
twice_more a c k = omega (arith, twice a c k)

-- Samples of 16 bits are half as many as their bytes.
pub halved : (w h c bits n m : ℕ) → bits ≡ 16 → n ≡ w * h * (c * units_of bits) → m ≡ n / 2 → m ≡ w * h * c
halved w h c bits n m sixteen n-is m-is =
    let bytes : n ≡ w * h * (c * 2) = n-is ∙ rw sixteen refl in
    let pairs : w * h * (c * 2) ≡ 2 * (w * h * c) = grind arith in
    omega (arith, bytes, pairs, m-is)

-- Samples of 16 bits that are decoded from stored pairs of bytes are those that are shown.
pub shown_pairs : (bytes old new : List ℕ) (s : Scheme) (r : Rect) → s.bits ≡ 16 → length new ≡ r.w * r.h * s.channels
    → ((i : ℕ) → i < length new → get_or new i 0 ≡ sample_of s.white_is_zero 65535 (number s.order w16 old (2 * i))) →
    HoldsStored bytes (units s) r old → HoldsShown bytes s r new
shown_pairs bytes old new s r sixteen len is held x y k xw yh kc =
    let two : units_of s.bits ≡ 2 = rw sixteen refl in
    let i = (y * r.w + x) * s.channels + k in
    let n = (r.x + x) % s.piece_width * s.channels + k in
    let row = row_place s (r.x + x) (r.y + y) in
    let below : i < length new = omega (arith, len, index_below r.w r.h s.channels x y k xw yh kc) in
    let byte : (j : ℕ) → j < s.channels * 2 → get_or old ((y * r.w + x) * (s.channels * 2) + j) 0 ≡ get_or bytes
    (row + ((r.x + x) % s.piece_width * (s.channels * 2) + j)) 0
    = λ j lt. ap (λ (u : ℕ). get_or old ((y * r.w + x) * (s.channels * u) + j) 0) (sym two) ∙ held x y j xw yh (rw two lt) ∙
    stored_byte bytes s (r.x + x) (r.y + y) j sixteen in
    let first : get_or old (2 * i) 0 ≡ get_or bytes (row + 2 * n) 0
    = ap (λ (m : ℕ). get_or old m 0) (twice (y * r.w + x) s.channels k) ∙ byte (2 * k) (omega (arith, kc)) ∙
    ap (λ (m : ℕ). get_or bytes (row + m) 0) (sym (twice ((r.x + x) % s.piece_width) s.channels k)) in
    let there : row + 2 * n + 1 ≡ row + ((r.x + x) % s.piece_width * (s.channels * 2) + (2 * k + 1)) =
    omega (arith, twice_more ((r.x + x) % s.piece_width) s.channels k) in
    let second : get_or old (2 * i + 1) 0 ≡ get_or bytes (row + 2 * n + 1) 0
    = ap (λ (m : ℕ). get_or old m 0) (twice_more (y * r.w + x) s.channels k) ∙ byte (2 * k + 1) (omega (arith, kc)) ∙
    ap (λ (m : ℕ). get_or bytes m 0) (sym there) in
    is i below ∙ ap (sample_of s.white_is_zero 65535) (same_number s.order old bytes (2 * i) (row + 2 * n) first second) ∙
    sym (shown_pair bytes s (r.x + x) (r.y + y) k sixteen)
