-- Numbers and entries in a part of the file that was read.
--   *_in            a number of the n bytes that were read at an offset is that of the file
--   entries_push    entries that are decoded one by one are those of the directory
--   directory_*     a directory that ends within the file is not refused
use Rattle.std.proofs.Common.{◌≡◌, ℕ, ◌+◌, ◌*◌, ◌-◌, ◌<◌, ◌≤◌, List, [], ◌∷◌, ◌++◌, length, get_or, take, drop, map, Option, Some, None}
use Rattle.std.proofs.Common.{true, false, ltb, cond, refl, sym, ap, ◌∙◌, add-zero, arith}
use Rattle.std.proofs.lemmas.Bool.{le-ltb}
use Rattle.std.specs.Int.{Width, w16, w32, from_le_bytes, from_be_bytes}
use Rattle.std.specs.List.{range_with_len}
use Rattle.std.proofs.lemmas.List.{get_or-drop, get_or-take, map_push, drop-take, drop-drop, take-take, take_rest}
use Rattle.std.proofs.lemmas.List.FromFn.{map-range_with_len_more}
use Rattle.iiif_tiff.specs.Tiff.{Little, Big, number}
use Rattle.iiif_tiff.specs.Tiff as tiff
use Rattle.iiif_tiff_read.specs.declared.byte_order.ByteOrder.{ByteOrder}
use Rattle.iiif_tiff_read.specs.declared.entry.FieldEntry.{FieldEntry}
use Rattle.std.specs.Prelude.{option_map, find, ◌==◌}
use Rattle.iiif_tiff_read.specs.Code.{entry_view, entry_views, Reads}

-- Byte j behind byte i of the n bytes that were read at an offset is that of the file.
pub byte_in : (bytes : List ℕ) (at n i j : ℕ) → i + j < n → get_or (drop i (take n (drop at bytes))) j 0 ≡ get_or (drop (at + i) bytes) j 0
byte_in bytes at n i j lt =
    let same : at + (i + j) ≡ at + i + j = omega arith in
    get_or-drop i (take n (drop at bytes)) j 0 ∙ get_or-take n (drop at bytes) (i + j) 0 lt ∙ get_or-drop at bytes (i + j) 0
    ∙ ap (λ (k : ℕ). get_or bytes k 0) same ∙ sym (get_or-drop (at + i) bytes j 0)

-- A number of two bytes of those that were read is that of the file.
pub short_in : (o : tiff.ByteOrder) (bytes : List ℕ) (at n i : ℕ) → i + 2 ≤ n →
    number o w16 (take n (drop at bytes)) i ≡ number o w16 bytes (at + i)
short_in Little bytes at n i le = rw (byte_in bytes at n i 0 (omega arith), byte_in bytes at n i 1 (omega arith)) refl
short_in Big bytes at n i le = rw (byte_in bytes at n i 0 (omega arith), byte_in bytes at n i 1 (omega arith)) refl

-- A number of four bytes of those that were read is that of the file.
pub long_in : (o : tiff.ByteOrder) (bytes : List ℕ) (at n i : ℕ) → i + 4 ≤ n →
    number o w32 (take n (drop at bytes)) i ≡ number o w32 bytes (at + i)
long_in Little bytes at n i le = rw (
  byte_in bytes at n i 0 (omega arith),
  byte_in bytes at n i 1 (omega arith),
  byte_in bytes at n i 2 (omega arith),
  byte_in bytes at n i 3 (omega arith),
) refl
long_in Big bytes at n i le = rw (
  byte_in bytes at n i 0 (omega arith),
  byte_in bytes at n i 1 (omega arith),
  byte_in bytes at n i 2 (omega arith),
  byte_in bytes at n i 3 (omega arith),
) refl

-- Entries and the next one are one entry more of the directory.
pub entries_push : (bytes : List ℕ) (start i : ℕ) (es : List FieldEntry) (e : FieldEntry) →
    entry_views es ≡ map (λ k. tiff.entry bytes (start + 12 * k)) (range_with_len 0 i)
    → entry_view e ≡ tiff.entry bytes (start + 12 * i) →
    entry_views (es ++ e ∷ []) ≡ map (λ k. tiff.entry bytes (start + 12 * k)) (range_with_len 0 (i + 1))
entries_push bytes start i es e so_far one = map_push _ es e ∙
    rw (so_far, one) (sym (map-range_with_len_more (λ (k : ℕ). tiff.entry bytes (start + 12 * k)) 0 i i (omega arith)))

number_drop : (o : tiff.ByteOrder) (w : Width) (xs : List ℕ) (m k : ℕ) → number o w (drop m xs) k ≡ number o w xs (m + k)
number_drop Little w xs m k = ap (from_le_bytes w) (drop-drop k m xs)
number_drop Big w xs m k = ap (from_be_bytes w) (drop-drop k m xs)

-- entry i of those that were read
record IsPart (file bytes b : List ℕ) (start count i : ℕ) : Type 0 where
  part : b ≡ take (length bytes - 12 * i) (drop (12 * i) bytes)
  all : bytes ≡ take (12 * count) (drop start file)
  below : i < count

short_of : (o : tiff.ByteOrder) (file bytes b : List ℕ) (start count i k : ℕ) → IsPart file bytes b start count i → k + 2 ≤ 12 →
    number o w16 b k ≡ number o w16 file (start + 12 * i + k)
short_of o file bytes b start count i k p le =
    let same : start + (12 * i + k) ≡ start + 12 * i + k = omega arith in
    let b-is : b ≡ drop (12 * i) (take (12 * count) (drop start file)) = p.part ∙ take_rest bytes (12 * i) ∙ ap (drop (12 * i)) p.all in
    rw b-is (number_drop o w16 (take (12 * count) (drop start file)) (12 * i) k ∙
    short_in o file start (12 * count) (12 * i + k) (omega (arith, p.below)) ∙ ap (number o w16 file) same)

long_of : (o : tiff.ByteOrder) (file bytes b : List ℕ) (start count i k : ℕ) → IsPart file bytes b start count i → k + 4 ≤ 12 →
    number o w32 b k ≡ number o w32 file (start + 12 * i + k)
long_of o file bytes b start count i k p le =
    let same : start + (12 * i + k) ≡ start + 12 * i + k = omega arith in
    let b-is : b ≡ drop (12 * i) (take (12 * count) (drop start file)) = p.part ∙ take_rest bytes (12 * i) ∙ ap (drop (12 * i)) p.all in
    rw b-is (number_drop o w32 (take (12 * count) (drop start file)) (12 * i) k ∙
    long_in o file start (12 * count) (12 * i + k) (omega (arith, p.below)) ∙ ap (number o w32 file) same)

inside_of : (file bytes b : List ℕ) (start count i : ℕ) → IsPart file bytes b start count i →
    take 4 (drop 8 b) ≡ take 4 (drop (start + 12 * i + 8) file)
inside_of file bytes b start count i p =
    let same : start + (12 * i + 8) ≡ start + 12 * i + 8 = omega arith in
    let n : 12 * count ≡ 12 * i + 8 + (12 * count - (12 * i + 8)) = omega (arith, p.below) in
    let b-is : b ≡ drop (12 * i) (take (12 * count) (drop start file)) = p.part ∙ take_rest bytes (12 * i) ∙ ap (drop (12 * i)) p.all in
    let behind : drop 8 b ≡ take (12 * count - (12 * i + 8)) (drop (start + 12 * i + 8) file)
    = ap (drop 8) b-is ∙ drop-drop 8 (12 * i) (take (12 * count) (drop start file)) ∙
    ap (λ (m : ℕ). drop (12 * i + 8) (take m (drop start file))) n
    ∙ drop-take (12 * i + 8) (12 * count - (12 * i + 8)) (drop start file) ∙
    ap (take (12 * count - (12 * i + 8))) (drop-drop (12 * i + 8) start file ∙ ap (λ (m : ℕ). drop m file) same) in
    ap (take 4) behind ∙ take-take 4 (12 * count - (12 * i + 8)) (drop (start + 12 * i + 8) file) (omega (arith, p.below))

-- An entry whose four parts are decoded from its twelve bytes is the entry of the file.
pub entry_decoded : (e : FieldEntry) (o : tiff.ByteOrder) (file bytes b : List ℕ) (start count i : ℕ) →
    b ≡ take (length bytes - 12 * i) (drop (12 * i) bytes) → bytes ≡ take (12 * count) (drop start file) → i < count → o ≡ tiff.order file
    → e.tag ≡ number o w16 b 0 → e.kind ≡ number o w16 b 2 → e.count ≡ number o w32 b 4 → e.inside ≡ take 4 (drop 8 b) →
    entry_view e ≡ tiff.entry file (start + 12 * i)
unfolding tiff.entry
entry_decoded e o file bytes b start count i b-is bytes-is below o-is tag kind count-is inside =
    let p : IsPart file bytes b start count i = record { part = b-is; all = bytes-is; below = below } in
    let t : e.tag ≡ number o w16 file (start + 12 * i) = tag ∙ short_of o file bytes b start count i 0 p (omega arith) ∙
    ap (number o w16 file) (add-zero (start + 12 * i)) in
    let k : e.kind ≡ number o w16 file (start + 12 * i + 2) = kind ∙ short_of o file bytes b start count i 2 p (omega arith) in
    let n : e.count ≡ number o w32 file (start + 12 * i + 4) = count-is ∙ long_of o file bytes b start count i 4 p (omega arith) in
    let x : e.inside ≡ take 4 (drop (start + 12 * i + 8) file) = inside ∙ inside_of file bytes b start count i p in
    rw (t, k, n, x, o-is) refl

-- A directory that ends within the file is not refused, and its count is that of the file.
pub directory_in_file : (o : tiff.ByteOrder) (bytes : List ℕ) (start count : ℕ) → o ≡ tiff.order bytes → start ≡ tiff.directory bytes →
    count ≡ number o w16 bytes start
    → start + 2 ≤ length bytes → start + 2 + 12 * count ≤ length bytes →
    (tiff.directory_fits bytes ≡ None) × (count ≡ tiff.entry_count bytes)
unfolding tiff.directory_fits
directory_in_file o bytes start count o-is s count-is first second =
    let n : count ≡ tiff.entry_count bytes = count-is ∙ rw (o-is, s) refl in
    let a : ltb (length bytes) (tiff.directory bytes + 2) ≡ false = le-ltb _ _ (omega arith) in
    let b : ltb (length bytes) (tiff.directory bytes + 2 + 12 * tiff.entry_count bytes) ≡ false = le-ltb _ _ (omega arith) in
    (rw (a, b) refl, n)

-- Entries that were decoded from the directory on are those of the file.
pub entries_read : (bytes : List ℕ) (start count : ℕ) (es : List FieldEntry) → start ≡ tiff.directory bytes →
    count ≡ tiff.entry_count bytes →
    entry_views es ≡ map (λ k. tiff.entry bytes (start + 2 + 12 * k)) (range_with_len 0 count) → entry_views es ≡ tiff.entries bytes
unfolding tiff.entries
entries_read bytes start count es s n views = views ∙ rw (s, n) refl

find_view : (tag : ℕ) (es : List FieldEntry) →
    option_map entry_view (find (λ e. e.tag == tag) es) ≡ find (λ e. e.tag == tag) (entry_views es)
find_view tag [] = refl
find_view tag (e ∷ es) = elim (e.tag == tag) as
    (λ b. option_map entry_view (cond b (Some e) (find (λ x. x.tag == tag) es)) ≡ cond b (Some (entry_view e))
    (find (λ x. x.tag == tag) (entry_views es))) [ true ↦ refl | false ↦ find_view tag es ]

-- The first entry with a tag, in the standard's terms, is the entry of that tag in the file.
pub first_view : (bytes : List ℕ) (o : ByteOrder) (es : List FieldEntry) (tag : ℕ) (r : Option FieldEntry) → Reads bytes o es →
    r ≡ find (λ e. e.tag == tag) es → option_map entry_view r ≡ tiff.entry_of bytes tag
unfolding tiff.entry_of
first_view bytes o es tag r reads r-is = rw (r-is, ← reads.entries_are) (find_view tag es)
