-- Rows of a strip as the code appends them: byte by byte where they are bits, sample by sample where they are deep.
use Rattle.std.proofs.Common.{◌≡◌, ℕ, zero, suc, ◌+◌, ◌*◌, ◌/◌, ◌<◌, ◌≤◌, List, [], ◌∷◌, ◌++◌, length, get_or, take, add-one, refl, sym}
use Rattle.std.proofs.Common.{ap, subst, ◌∙◌, ◌⊎◌, arith, append_assoc, true, false, ltb, inl, inr}
use Rattle.std.specs.Int.{div_ceil, to_le_bytes, w16}
use Rattle.std.specs.List.{flat_map}
use Rattle.std.proofs.Math.Seq.{take-suc}
use Rattle.std.proofs.lemmas.List.{append-nil}
use Rattle.std.proofs.lemmas.Grind.{flat_map-append}
use Rattle.std.proofs.lemmas.Nat.{mul-le}
use Rattle.std.proofs.lemmas.Bool.{lt-ltb, le-ltb, cases_lt}
use Rattle.iiif_pixel.specs.Picture.{Picture, IsWhole, joined, row_of, sample_at, samples_of, span_of}
use Rattle.iiif_pixel.proofs.Joined.{joined_more, joined-same}
use Rattle.iiif_pixel.proofs.SampleLists.{length-row_of, get_or-row_of, picture_of-samples}
use Rattle.iiif_tiff_write.specs.declared.kind.OutKind.{OutKind}
use Rattle.iiif_tiff_write.specs.declared.kind.OutKind.TheVariants.{Gray, Rgb, Bitonal, Gray16, Rgb16}
use Rattle.iiif_tiff_write.specs.OutKind.{samples_per_pixel}
use Rattle.iiif_tiff_write.specs.File.{row, strip, bit_at, shorts_of}
use Rattle.iiif_tiff_write.specs.Code.{bit_of, byte_from, packed_bytes, packed_row, rows_before}

-- No bytes are packed at first.
pub packed_bytes_none : (s : List ℕ) → packed_bytes s 0 ≡ []
unfolding packed_bytes
packed_bytes_none s = refl

-- One byte more is that of the next eight samples.
pub packed_bytes_more : (s : List ℕ) (j : ℕ) → packed_bytes s (j + 1) ≡ packed_bytes s j ++ byte_from s (8 * j) ∷ []
unfolding packed_bytes
packed_bytes_more s j = joined_more j _

-- Where the byte of the next eight samples is appended, one byte more is packed.
pub packed_bytes_push : (out before after s : List ℕ) (j byte : ℕ) → before ≡ out ++ packed_bytes s j → byte ≡ byte_from s (8 * j) →
    after ≡ before ++ byte ∷ [] → after ≡ out ++ packed_bytes s (j + 1)
packed_bytes_push out before after s j byte so_far is more =
    more ∙ rw (so_far, is, packed_bytes_more s j) (append_assoc out (packed_bytes s j) (byte_from s (8 * j) ∷ []))

-- Where the byte of the last samples, fewer than eight, is appended, the whole row is packed.
pub packed_row_push : (out before after s : List ℕ) (j n byte : ℕ) → before ≡ out ++ packed_bytes s j → byte ≡ byte_from s (8 * n) →
    after ≡ before ++ byte ∷ [] → n ≡ length s / 8 → 8 * n < length s → j ≡ n → after ≡ out ++ packed_row s
packed_row_push out before after s j n byte so_far is more n-is lt same =
    let j-is : byte ≡ byte_from s (8 * j) = is ∙ ap (λ (i : ℕ). byte_from s (8 * i)) (sym same) in
    packed_bytes_push out before after s j byte so_far j-is more ∙ ap (λ (i : ℕ). out ++ packed_bytes s i) (last_is j n same n-is lt)
  where
    last_is : (j n : ℕ) → j ≡ n → n ≡ length s / 8 → 8 * n < length s → j + 1 ≡ div_ceil (length s) 8
    last_is j n same n-is lt = omega arith

-- All bytes are packed where no samples are left.
pub packed_bytes_all : (s : List ℕ) (n : ℕ) → n ≡ length s / 8 → length s ≤ 8 * n → packed_bytes s n ≡ packed_row s
packed_bytes_all s n n-is le = ap (packed_bytes s) (omega arith)

-- The byte of the last samples completes the row.
pub packed_bytes_last : (s : List ℕ) (n : ℕ) → n ≡ length s / 8 → 8 * n < length s →
    packed_bytes s n ++ byte_from s (8 * n) ∷ [] ≡ packed_row s
packed_bytes_last s n n-is lt = sym (packed_bytes_more s n) ∙ ap (packed_bytes s) (omega arith)

pub ruleset packing = (packed_bytes_none, packed_bytes_more, packed_bytes_all, packed_bytes_last)

length-span : (p : Picture) (y : ℕ) → p.channels ≡ 1 → length (span_of p 0 y p.width) ≡ p.width
length-span p y e = length-row_of p.width p.channels _ ∙ rw e (omega arith)

sample_of_span : (p : Picture) (y i : ℕ) → p.channels ≡ 1 → i < p.width → get_or (span_of p 0 y p.width) i 0 ≡ sample_at p i y 0
sample_of_span p y i e l =
    let at : i * p.channels + 0 ≡ i = rw e (omega arith) in
    let here = get_or-row_of p.width p.channels (λ x k. sample_at p (0 + x) y k) i 0 0 l (omega arith) in
    ap (λ (n : ℕ). get_or (span_of p 0 y p.width) n 0) (sym at) ∙ here ∙ ap (λ (n : ℕ). sample_at p n y 0) (omega arith)

bit_of_span : (p : Picture) (y i : ℕ) → p.channels ≡ 1 → p.top ≡ 255 → bit_of (span_of p 0 y p.width) i ≡ bit_at p y i
bit_of_span p y i e top = elim (cases_lt i p.width) [
  | inl inside ↦ let is : ltb i p.width ≡ true = lt-ltb _ _ inside in rw (length-span p y e, is, sample_of_span p y i e inside, top) refl
  | inr outside ↦ let is : ltb i p.width ≡ false = le-ltb _ _ outside in rw (length-span p y e, is) refl
]

-- A row of a gray picture, packed, is its row of bits.
pub packed_row_span : (p : Picture) (y : ℕ) → p.channels ≡ 1 → p.top ≡ 255 → packed_row (span_of p 0 y p.width) ≡ row Bitonal p y
unfolding packed_bytes byte_from row
packed_row_span p y e top =
    let s = span_of p 0 y p.width in
    ap (λ (n : ℕ). joined (div_ceil n 8) (λ j. byte_from s (8 * j) ∷ [])) (length-span p y e)
    ∙ joined-same (div_ceil p.width 8) _ _ (λ j l. rw (
      bit_of_span p y (8 * j + 0) e top,
      bit_of_span p y (8 * j + 1) e top,
      bit_of_span p y (8 * j + 2) e top,
      bit_of_span p y (8 * j + 3) e top,
      bit_of_span p y (8 * j + 4) e top,
      bit_of_span p y (8 * j + 5) e top,
      bit_of_span p y (8 * j + 6) e top,
      bit_of_span p y (8 * j + 7) e top,
    ) refl)

-- No rows are written at first.
pub rows_before_none : (k : OutKind) (p : Picture) → rows_before k p 0 ≡ []
unfolding rows_before
rows_before_none k p = refl

-- One row more is the next row.
pub rows_before_more : (k : OutKind) (p : Picture) (y : ℕ) → rows_before k p (y + 1) ≡ rows_before k p y ++ row k p y
unfolding rows_before
rows_before_more k p y = joined_more y _

-- All rows are the strip.
pub rows_before_all : (k : OutKind) (p : Picture) → rows_before k p p.height ≡ strip k p
unfolding rows_before strip
rows_before_all k p = refl

-- A row of a gray picture has a sample a column.
pub length-row_span : (p : Picture) (y w : ℕ) (s : List ℕ) → p.channels ≡ 1 → w ≡ p.width → s ≡ span_of p 0 y w → length s ≡ p.width
length-row_span p y w s e whole is = rw (is, whole) (length-span p y e)

-- Where the next row of bits is appended, one row more is written.
pub rows_before_push : (p : Picture) (y w : ℕ) (out before after s : List ℕ) → p.channels ≡ 1 → p.top ≡ 255 → w ≡ p.width
    → s ≡ span_of p 0 y w → before ≡ out ++ rows_before Bitonal p y → after ≡ before ++ packed_row s
    → after ≡ out ++ rows_before Bitonal p (y + 1)
rows_before_push p y w out before after s e top whole is so_far more =
    more ∙ rw (so_far, is, whole, packed_row_span p y e top, rows_before_more Bitonal p y)
    (append_assoc out (rows_before Bitonal p y) (row Bitonal p y))

-- Where there is room for all rows, there is room for one more.
pub room_more : (r y h len before cap : ℕ) → len ≡ before + r * y → before + r * h ≤ cap → y < h → len + r ≤ cap
room_more r y h len before cap is room below = omega (arith, mul-le r (y + 1) r h (omega arith) (omega arith))

-- The rows of a picture, one after another, are its samples.
joined_rows : (p : Picture) → IsWhole p → joined p.height (λ y. row_of p.width p.channels (λ x k. sample_at p x y k)) ≡ p.samples
unfolding samples_of
joined_rows p w = ap (λ (q : Picture). q.samples) (picture_of-samples p w)

strip_gray : (p : Picture) → IsWhole p → p.channels ≡ 1 → strip Gray p ≡ p.samples
unfolding strip row
strip_gray p w e = subst (λ (c : ℕ). joined p.height (λ y. row_of p.width c (λ x k. sample_at p x y k)) ≡ p.samples) e (joined_rows p w)

strip_rgb : (p : Picture) → IsWhole p → p.channels ≡ 3 → strip Rgb p ≡ p.samples
unfolding strip row
strip_rgb p w e = subst (λ (c : ℕ). joined p.height (λ y. row_of p.width c (λ x k. sample_at p x y k)) ≡ p.samples) e (joined_rows p w)

-- The strip of a file of 8 bits is the samples.
pub strip_8_bits : (p : Picture) (k : OutKind) → IsWhole p → p.channels ≡ samples_per_pixel k → (k ≡ Gray) ⊎ (k ≡ Rgb) →
    strip k p ≡ p.samples
strip_8_bits p k w e (inl gray) = rw gray (strip_gray p w (rw gray at e))
strip_8_bits p k w e (inr rgb) = rw rgb (strip_rgb p w (rw rgb at e))

-- ---- Samples of 16 bits

flat_map-joined : (f : ℕ → List ℕ) (n : ℕ) (g : ℕ → List ℕ) → flat_map f (joined n g) ≡ joined n (λ i. flat_map f (g i))
flat_map-joined f zero g = refl
flat_map-joined f (suc n) g = flat_map-append f (joined n g) (g n) ∙ ap (λ (s : List ℕ). s ++ flat_map f (g n)) (flat_map-joined f n g)

shorts_row : (w c : ℕ) (f : ℕ → ℕ → ℕ) → flat_map (to_le_bytes w16) (row_of w c f) ≡ shorts_of w c f
unfolding row_of shorts_of
shorts_row w c f =
    flat_map-joined (to_le_bytes w16) w _ ∙ joined-same w _ _
    (λ x lx. flat_map-joined (to_le_bytes w16) c _ ∙ joined-same c _ _ (λ k lk. append-nil (to_le_bytes w16 (f x k))))

shorts_rows : (p : Picture) → IsWhole p → joined p.height (λ y. shorts_of p.width p.channels (λ x k. sample_at p x y k)) ≡ flat_map
    (to_le_bytes w16) p.samples
shorts_rows p w =
    sym (ap (flat_map (to_le_bytes w16)) (sym (joined_rows p w)) ∙ flat_map-joined (to_le_bytes w16) p.height _ ∙
    joined-same p.height _ _ (λ y ly. shorts_row p.width p.channels (λ x k. sample_at p x y k)))

strip_gray16 : (p : Picture) → IsWhole p → p.channels ≡ 1 → strip Gray16 p ≡ flat_map (to_le_bytes w16) p.samples
unfolding strip row
strip_gray16 p w e = subst (λ (c : ℕ). joined p.height (λ y. shorts_of p.width c (λ x k. sample_at p x y k)) ≡ flat_map (to_le_bytes w16)
    p.samples) e (shorts_rows p w)

strip_rgb16 : (p : Picture) → IsWhole p → p.channels ≡ 3 → strip Rgb16 p ≡ flat_map (to_le_bytes w16) p.samples
unfolding strip row
strip_rgb16 p w e = subst (λ (c : ℕ). joined p.height (λ y. shorts_of p.width c (λ x k. sample_at p x y k)) ≡ flat_map (to_le_bytes w16)
    p.samples) e (shorts_rows p w)

-- The strip of a file of 16 bits is the samples, two bytes each.
pub strip_16_bits : (p : Picture) (k : OutKind) → IsWhole p → p.channels ≡ samples_per_pixel k → (k ≡ Gray16) ⊎ (k ≡ Rgb16) →
    strip k p ≡ flat_map (to_le_bytes w16) p.samples
strip_16_bits p k w e (inl gray) = rw gray (strip_gray16 p w (rw gray at e))
strip_16_bits p k w e (inr rgb) = rw rgb (strip_rgb16 p w (rw rgb at e))

-- Where the two bytes of the next sample are appended, one sample more is written.
pub flat_map_push : (out before after samples : List ℕ) (i low high : ℕ) → i < length samples →
    before ≡ out ++ flat_map (to_le_bytes w16) (take i samples)
    → low ≡ get_or (to_le_bytes w16 (get_or samples i 0)) 0 0 → high ≡ get_or (to_le_bytes w16 (get_or samples i 0)) 1 0
    → after ≡ (before ++ low ∷ []) ++ high ∷ [] → after ≡ out ++ flat_map (to_le_bytes w16) (take (i + 1) samples)
flat_map_push out before after samples i low high lt so_far low-is high-is more =
    let le = to_le_bytes w16 in
    let v = get_or samples i 0 in
    let next : take (i + 1) samples ≡ take i samples ++ v ∷ [] = rw add-one (take-suc samples i 0 lt) in
    let pair : low ∷ high ∷ [] ≡ le v = rw (low-is, high-is) refl in
    let one : flat_map le (v ∷ []) ≡ le v = append-nil (le v) in
    let all : flat_map le (take (i + 1) samples) ≡ flat_map le (take i samples) ++ le v = ap (flat_map le) next ∙
    flat_map-append le (take i samples) (v ∷ []) ∙ ap (λ (s : List ℕ). flat_map le (take i samples) ++ s) one in
    more ∙ append_assoc before (low ∷ []) (high ∷ []) ∙ ap (λ (s : List ℕ). before ++ s) pair ∙ ap (λ (s : List ℕ). s ++ le v) so_far
    ∙ append_assoc out (flat_map le (take i samples)) (le v) ∙ ap (λ (s : List ℕ). out ++ s) (sym all)
