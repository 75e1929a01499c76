-- Bytes and bits of a strip, by their place.
use Rattle.std.proofs.Common.{◌≡◌, ℕ, ◌+◌, ◌*◌, ◌-◌, ◌/◌, ◌%◌, ◌<◌, ◌≤◌, ◌^◌, ◌⊎◌, inl, inr, get_or, refl, ap, true, false, ltb, cond}
use Rattle.std.proofs.Common.{zero, suc, ◌∙◌, arith}
use Rattle.std.specs.Int.{div_ceil, to_le_bytes, w16}
use Rattle.std.proofs.lemmas.Nat.{mul-add-lt}
use Rattle.std.proofs.lemmas.Bool.{lt-ltb}
use Rattle.iiif_pixel.specs.Picture.{Picture, joined, sample_at}
use Rattle.iiif_pixel.proofs.Joined.{get_or-joined, get_or-singles}
use Rattle.iiif_tiff_write.specs.declared.kind.OutKind.{OutKind}
use Rattle.iiif_tiff_write.specs.declared.kind.OutKind.TheVariants.{Bitonal}
use Rattle.iiif_pixel.specs.Operations.{black_or_white}
use Rattle.iiif_tiff_write.specs.File.{row, strip, row_len, packed, bit_at, shorts_of, white_bit}
use Rattle.iiif_tiff_write.proofs.Lengths.{length-row, length-shorts}

-- Byte n of row y stands behind the rows above it.
pub get_or-strip : (k : OutKind) (p : Picture) (y n : ℕ) → y < p.height → n < row_len k p.width →
    get_or (strip k p) (y * row_len k p.width + n) 0 ≡ get_or (row k p y) n 0
unfolding strip
get_or-strip k p y n ly ln = get_or-joined p.height (row_len k p.width) (row k p) (λ y l. length-row k p y) y n 0 ly ln

-- Bit n of a byte, counted from the highest, is the bit that was packed there.
pub unpacked : (f : ℕ → ℕ) (n : ℕ) → ((i : ℕ) → f i ≤ 1) → n < 8 → packed f / 2 ^ (7 - n) % 2 ≡ f n
unpacked f zero small lt = omega (arith, small 0, small 1, small 2, small 3, small 4, small 5, small 6, small 7)
unpacked f (suc zero) small lt = omega (arith, small 0, small 1, small 2, small 3, small 4, small 5, small 6, small 7)
unpacked f (suc (suc zero)) small lt = omega (arith, small 0, small 1, small 2, small 3, small 4, small 5, small 6, small 7)
unpacked f (suc (suc (suc zero))) small lt = omega (arith, small 0, small 1, small 2, small 3, small 4, small 5, small 6, small 7)
unpacked f (suc (suc (suc (suc zero)))) small lt = omega (arith, small 0, small 1, small 2, small 3, small 4, small 5, small 6, small 7)
unpacked f (suc (suc (suc (suc (suc zero))))) small lt =
    omega (arith, small 0, small 1, small 2, small 3, small 4, small 5, small 6, small 7)
unpacked f (suc (suc (suc (suc (suc (suc zero)))))) small lt =
    omega (arith, small 0, small 1, small 2, small 3, small 4, small 5, small 6, small 7)
unpacked f (suc (suc (suc (suc (suc (suc (suc zero))))))) small lt =
    omega (arith, small 0, small 1, small 2, small 3, small 4, small 5, small 6, small 7)
unpacked f (suc (suc (suc (suc (suc (suc (suc (suc n)))))))) small lt = absurd (omega arith)

-- A bit is 0 or 1.
white_bit-le : (top v : ℕ) → white_bit top v ≤ 1
white_bit-le top v = elim (ltb v ((top + 1) / 2)) as (λ b. cond b 0 1 ≤ 1) [ true ↦ omega arith | false ↦ omega arith ]

-- A bit of a picture is 0 or 1.
pub bit_at-le : (p : Picture) (y x : ℕ) → bit_at p y x ≤ 1
bit_at-le p y x = elim (ltb x p.width) as (λ b. cond b (white_bit p.top (sample_at p x y 0)) 0 ≤ 1)
    [ true ↦ white_bit-le p.top (sample_at p x y 0) | false ↦ omega arith ]

-- A bit is read as black or white, as the sample was nearer to one or the other.
pub white_bit-read : (top v : ℕ) → 255 * white_bit top v ≡ black_or_white top v
white_bit-read top v = elim (ltb v ((top + 1) / 2)) as (λ b. 255 * cond b 0 1 ≡ cond b 0 255) [ true ↦ refl | false ↦ refl ]

-- Black and white stay what they are in black and white.
pub black_or_white-same : (v : ℕ) → (v ≡ 0) ⊎ (v ≡ 255) → black_or_white 255 v ≡ v
black_or_white-same v (inl black) = rw black refl
black_or_white-same v (inr white) = rw white refl

-- The bit of column x of a row is the bit of its sample.
pub bit_back : (p : Picture) (x y : ℕ) → x < p.width →
    get_or (row Bitonal p y) (x / 8) 0 / 2 ^ (7 - x % 8) % 2 ≡ white_bit p.top (sample_at p x y 0)
unfolding row
bit_back p x y lx =
    let j = x / 8 in
    let below : x / 8 < div_ceil p.width 8 = omega arith in
    let byte : get_or (row Bitonal p y) (x / 8) 0 ≡ packed (λ b. bit_at p y (8 * (x / 8) + b)) =
    get_or-singles (div_ceil p.width 8) (λ j. packed (λ b. bit_at p y (8 * j + b))) (x / 8) 0 below in
    let bit = unpacked (λ b. bit_at p y (8 * (x / 8) + b)) (x % 8) (λ i. bit_at-le p y (8 * (x / 8) + i)) (omega arith) in
    let here : 8 * (x / 8) + x % 8 ≡ x = omega arith in
    let inside : ltb x p.width ≡ true = lt-ltb _ _ lx in
    let is : bit_at p y (8 * (x / 8) + x % 8) ≡ white_bit p.top (sample_at p x y 0) = rw (here, inside) refl in
    ap (λ (n : ℕ). n / 2 ^ (7 - x % 8) % 2) byte ∙ bit ∙ is

-- Byte j of the sample in column x and channel k stands behind the samples left of it.
pub get_or-shorts_of : (w c : ℕ) (f : ℕ → ℕ → ℕ) (x k j : ℕ) → x < w → k < c → j < 2 →
    get_or (shorts_of w c f) (x * (c * 2) + (k * 2 + j)) 0 ≡ get_or (to_le_bytes w16 (f x k)) j 0
unfolding shorts_of
get_or-shorts_of w c f x k j lx lk lj =
    get_or-joined w (c * 2) (λ x. joined c (λ k. to_le_bytes w16 (f x k))) (λ x lx. length-shorts c (f x)) x (k * 2 + j) 0 lx
    (omega (arith, mul-add-lt k 2 j c lk lj))
    ∙ get_or-joined c 2 (λ k. to_le_bytes w16 (f x k)) (λ k lk. refl) k j 0 lk lj
