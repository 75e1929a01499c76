-- Values of an entry, inside it or at its offset.
--   numbers_push      numbers that are decoded one by one
--   *_inside          an entry whose values stand in its last four bytes
--   *_outside         an entry whose values stand at its offset
--   few_*             at most three values, read into the front of a buffer of twelve bytes
use Rattle.std.proofs.Common.{◌≡◌, ℕ, ◌+◌, ◌*◌, ◌-◌, ◌<◌, ◌≤◌, List, [], ◌∷◌, ◌++◌, length, get_or, take, drop, map, Some, None, Bool}
use Rattle.std.proofs.Common.{true, false, ltb, leb, cond, refl, sym, ap, ◌∙◌, arith}
use Rattle.std.specs.Int.{w32}
use Rattle.std.specs.List.{range_with_len}
use Rattle.std.specs.Prelude.{option_map, if◌then◌else◌}
use Rattle.std.proofs.lemmas.Bool.{le-leb, lt-leb, le-ltb}
use Rattle.std.proofs.lemmas.Nat.{row_fits}
use Rattle.std.proofs.lemmas.List.{get_or-drop, get_or-take, take_rest, take-append-le, take-take, length-take, length-take-le}
use Rattle.std.proofs.lemmas.List.{length-drop, length-append}
use Rattle.std.proofs.lemmas.List.FromFn.{map-range_with_len_more, length-map-range_with_len, get_or-map-range_with_len, fill_by_all}
use Rattle.iiif_tiff.specs.Tiff.{ByteOrder, Little, Big, number, is_unsigned, size, width_of, values, offset, entry_fits}
use Rattle.iiif_tiff.specs.Tiff as tiff
use Rattle.iiif_tiff_read.specs.declared.field_type.FieldType.{FieldType}
use Rattle.iiif_tiff_read.specs.declared.field_type.FieldType.TheVariants as types
use Rattle.iiif_tiff_read.specs.Code.{code, first_values}

-- Two functions that agree below n give one list of n values.
pub same_on_range : (f g : ℕ → ℕ) (n : ℕ) → ((i : ℕ) → i < n → f i ≡ g i) → map f (range_with_len 0 n) ≡ map g (range_with_len 0 n)
same_on_range f g n each =
    let here : (k : ℕ) → k < n → get_or (map f (range_with_len 0 n)) k 0 ≡ g k = λ k lt.
    get_or-map-range_with_len f 0 n k k 0 lt (omega arith) ∙ each k lt in
    fill_by_all g (map f (range_with_len 0 n)) n 0 (length-map-range_with_len f 0 n) here

-- Numbers and the next one are one number more.
pub numbers_push : (o : ByteOrder) (k : ℕ) (bytes items : List ℕ) (i x : ℕ) →
    items ≡ map (λ j. number o (width_of k) bytes (j * size k)) (range_with_len 0 i)
    → x ≡ number o (width_of k) (take (length bytes - i * size k) (drop (i * size k) bytes)) 0 →
    items ++ x ∷ [] ≡ map (λ j. number o (width_of k) bytes (j * size k)) (range_with_len 0 (i + 1))
numbers_push Little k bytes items i x so_far one =
    rw (so_far, one, take_rest bytes (i * size k))
    (sym (map-range_with_len_more (λ (j : ℕ). number Little (width_of k) bytes (j * size k)) 0 i i (omega arith)))
numbers_push Big k bytes items i x so_far one =
    rw (so_far, one, take_rest bytes (i * size k))
    (sym (map-range_with_len_more (λ (j : ℕ). number Big (width_of k) bytes (j * size k)) 0 i i (omega arith)))

byte_within : (xs : List ℕ) (m i j : ℕ) → i + j < m → get_or (drop i (take m xs)) j 0 ≡ get_or (drop i xs) j 0
byte_within xs m i j lt = get_or-drop i (take m xs) j 0 ∙ get_or-take m xs (i + j) 0 lt ∙ sym (get_or-drop i xs j 0)

-- a number that stands in the front of the bytes
number_within : (t : FieldType) (o : ByteOrder) (xs : List ℕ) (m i : ℕ) → i + size (code t) ≤ m →
    number o (width_of (code t)) (take m xs) i ≡ number o (width_of (code t)) xs i
number_within types.Byte Little xs m i le = rw (byte_within xs m i 0 (omega arith)) refl
number_within types.Byte Big xs m i le = rw (byte_within xs m i 0 (omega arith)) refl
number_within types.Short Little xs m i le = rw (byte_within xs m i 0 (omega arith), byte_within xs m i 1 (omega arith)) refl
number_within types.Short Big xs m i le = rw (byte_within xs m i 0 (omega arith), byte_within xs m i 1 (omega arith)) refl
number_within types.Long Little xs m i le = rw (
  byte_within xs m i 0 (omega arith),
  byte_within xs m i 1 (omega arith),
  byte_within xs m i 2 (omega arith),
  byte_within xs m i 3 (omega arith),
) refl
number_within types.Long Big xs m i le = rw (
  byte_within xs m i 0 (omega arith),
  byte_within xs m i 1 (omega arith),
  byte_within xs m i 2 (omega arith),
  byte_within xs m i 3 (omega arith),
) refl

unsigned_code : (t : FieldType) → is_unsigned (code t) ≡ true
unsigned_code types.Byte = refl
unsigned_code types.Short = refl
unsigned_code types.Long = refl

kind_from : (a b : ℕ) (u : Bool) → option_map (λ (n : ℕ). n) (Some a) ≡ cond u (Some b) None → b ≡ a
kind_from a b true e = cc
kind_from a b false e = absurd cc

-- the type of an entry is the one that was found
pub kind_is : (t : FieldType) (k : ℕ) → option_map code (Some t) ≡ (if is_unsigned k then Some k else None) → k ≡ code t
kind_is t k e = kind_from (code t) k (is_unsigned k) e

-- An entry whose values stand inside it is not refused.
pub fits_inside : (bytes : List ℕ) (e : tiff.Entry) (t : FieldType) (tag : ℕ) (allowed : Bool) → e.kind ≡ code t →
    e.count * size (code t) ≤ 4 → allowed ≡ true → entry_fits bytes tag allowed e ≡ None
unfolding entry_fits
fits_inside bytes e t tag allowed k-is le is =
    let inside : leb (e.count * size (code t)) 4 ≡ true = le-leb _ _ le in
    rw (is, k-is, unsigned_code t, inside) refl

-- An entry whose values stand in the file is not refused.
pub fits_outside : (bytes : List ℕ) (o : ByteOrder) (e : tiff.Entry) (t : FieldType) (tag off : ℕ) (allowed : Bool) → o ≡ tiff.order bytes →
    e.kind ≡ code t → 4 < e.count * size (code t) → off ≡ number o w32 e.inside 0 → off + e.count * size (code t) ≤ length bytes →
    allowed ≡ true → entry_fits bytes tag allowed e ≡ None
unfolding entry_fits
fits_outside bytes o e t tag off allowed o-is k-is lt off-is fits is =
    let outside : leb (e.count * size (code t)) 4 ≡ false = lt-leb _ _ lt in
    let at : off ≡ offset bytes e = off-is ∙ rw o-is refl in
    let whole : ltb (length bytes) (offset bytes e + e.count * size (code t)) ≡ false = le-ltb _ _ (omega arith) in
    rw (is, k-is, unsigned_code t, outside, whole) refl

-- Numbers that are decoded from the last four bytes of an entry are its values.
pub values_inside : (bytes : List ℕ) (o : ByteOrder) (e : tiff.Entry) (t : FieldType) (tag n : ℕ) (items : List ℕ) → o ≡ tiff.order bytes →
    e.kind ≡ code t → e.count * size (code t) ≤ 4
    → items ≡ map (λ i. number o (width_of (code t)) e.inside (i * size (code t))) (range_with_len 0 n) →
    (entry_fits bytes tag true e ≡ None) × (items ≡ values bytes e n)
unfolding entry_fits tiff.value
values_inside bytes o e t tag n items o-is k-is le items-is =
    let inside : leb (e.count * size (code t)) 4 ≡ true = le-leb _ _ le in
    let each : (i : ℕ) → i < n → number o (width_of (code t)) e.inside (i * size (code t)) ≡ tiff.value bytes e i = λ i below.
    rw (k-is, inside, ← o-is) refl in (
      fits_inside bytes e t tag true k-is le refl,
      items-is ∙
          same_on_range (λ i. number o (width_of (code t)) e.inside (i * size (code t))) (tiff.value bytes e) n each,
    )

-- Numbers that are decoded from the bytes at the offset of an entry are its values.
pub values_outside : (bytes : List ℕ) (o : ByteOrder) (e : tiff.Entry) (t : FieldType) (tag n off : ℕ) (items buffer : List ℕ) →
    o ≡ tiff.order bytes → e.kind ≡ code t → 4 < e.count * size (code t)
    → off ≡ number o w32 e.inside 0 → off + e.count * size (code t) ≤ length bytes → buffer ≡ take (n * size (code t)) (drop off bytes)
    → items ≡ map (λ i. number o (width_of (code t)) buffer (i * size (code t))) (range_with_len 0 n) →
    (entry_fits bytes tag true e ≡ None) × (items ≡ values bytes e n)
unfolding entry_fits tiff.value
values_outside bytes o e t tag n off items buffer o-is k-is lt off-is fits buffer-is items-is =
    let outside : leb (e.count * size (code t)) 4 ≡ false = lt-leb _ _ lt in
    let at : off ≡ offset bytes e = off-is ∙ rw o-is refl in
    let each : (i : ℕ) → i < n → number o (width_of (code t)) buffer (i * size (code t)) ≡ tiff.value bytes e i =
    λ i below. rw (buffer-is, k-is, outside, ← at, ← o-is)
    (number_within t o (drop off bytes) (n * size (code t)) (i * size (code t))
    (row_fits i (size (code t)) n (size (code t)) below (omega arith))) in (
      fits_outside bytes o e t tag off true o-is k-is lt off-is fits refl,
      items-is ∙
          same_on_range (λ i. number o (width_of (code t)) buffer (i * size (code t))) (tiff.value bytes e) n each,
    )

-- The values of an entry are those of its field.
pub of_field : (bytes : List ℕ) (tag n : ℕ) (e : tiff.Entry) → tiff.entry_of bytes tag ≡ Some e →
    values bytes e n ≡ first_values bytes tag n
unfolding tiff.value_or first_values
of_field bytes tag n e is =
    let here : (i : ℕ) → i < n → tiff.value bytes e i ≡ tiff.value_or bytes tag i 0 = λ i below. rw is refl in
    same_on_range (tiff.value bytes e) (λ i. tiff.value_or bytes tag i 0) n here

-- The front of a buffer that was read into has the bytes of the file.
pub few_bytes : (buffer new file : List ℕ) (off n : ℕ) → new ≡ take (length (take n buffer)) (drop off file) → n ≤ length buffer →
    off + n ≤ length file → take n (new ++ drop n buffer) ≡ take n (drop off file)
few_bytes buffer new file off n new-is room fits =
    let read : new ≡ take n (drop off file) = new-is ∙ rw (length-take-le n buffer room) refl in
    let len : length new ≡ n = ap length read ∙ omega (arith, length-take n (drop off file), length-drop off file) in
    let le : n ≤ length new = omega (arith, len) in
    take-append-le n new (drop n buffer) le ∙ ap (take n) read ∙ take-take n n (drop off file) (omega arith)

-- The front of the buffer is read from within the file.
pub few_room : (buffer : List ℕ) (off n m : ℕ) → n ≤ length buffer → off + n ≤ m → off + length (take n buffer) ≤ m
few_room buffer off n m room fits = rw (length-take-le n buffer room) fits

-- The bytes that were read, and the rest of the buffer behind them, are n or more.
pub few_kept : (buffer new : List ℕ) (n : ℕ) → length new ≡ length (take n buffer) → n ≤ length buffer → n ≤ length (new ++ drop n buffer)
few_kept buffer new n len-is room = omega (arith, length-append new (drop n buffer), length-take-le n buffer room, len-is)

-- Three values take at most twelve bytes.
pub few_fit : (t : FieldType) (n : ℕ) → n ≤ 3 → n * size (code t) ≤ 12
few_fit types.Byte n le = omega arith
few_fit types.Short n le = omega arith
few_fit types.Long n le = omega arith
