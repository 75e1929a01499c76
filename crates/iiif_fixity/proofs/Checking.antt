-- Checked reads.
use Rattle.std.proofs.Common.{◌≡◌, ℕ, zero, suc, ◌+◌, ◌*◌, ◌-◌, ◌<◌, ◌≤◌, ◌||◌, ◌==◌, min, Bool, IsTrue, List, ◌++◌, length, Some, get_or}
use Rattle.std.proofs.Common.{take, drop, ap, ◌∙◌, sym, inl, inr, arith, subst, ◌/◌, ◌%◌}
use Rattle.std.proofs.lemmas.Bool.{cases_lt, or_left, or_right}
use Rattle.std.proofs.lemmas.List.{ext_get_or, drop-drop, get_or-take, get_or-drop, length-take, length-drop, length-append}
use Rattle.std.proofs.lemmas.Nat.{mul-le, div-add-mod'}
use Rattle.std.proofs.lemmas.Slice.{take-put_mid}
use Rattle.std.proofs.Math.Seq.{take-add}
use borrow.Rule.Slice.PartMut.{put_mid}
use Rattle.sha2.specs.Sha256.{sha256}
use Rattle.iiif_source.specs.Cause.{differs}
use Rattle.iiif_source.specs.declared.ReadFault.{ReadFault}
use Rattle.iiif_fixity.specs.Pieces.{piece_of, listed, IsPieceOf, IsTold, any_gave}

-- a part of a piece is that part of the whole
part_of_piece : (size first skip m : ℕ) (bytes : List ℕ) → skip + m ≤ size →
    take m (drop skip (take size (drop first bytes))) ≡ take m (drop (first + skip) bytes)
part_of_piece size first skip m bytes within =
    let piece = take size (drop first bytes) in
    let of_piece : length (take m (drop skip piece)) ≡ min m (min size (length bytes - first) - skip) =
    omega (arith, length-take m (drop skip piece), length-drop skip piece, length-take size (drop first bytes), length-drop first bytes) in
    let of_whole : length (take m (drop (first + skip) bytes)) ≡ min m (length bytes - (first + skip)) =
    omega (arith, length-take m (drop (first + skip) bytes), length-drop (first + skip) bytes) in
    ext_get_or 0 (take m (drop skip piece)) (take m (drop (first + skip) bytes)) (omega (arith, of_piece, of_whole, within))
    (λ i below.
    let near : i < m = omega (arith, of_piece, below) in
    get_or-take m (drop skip piece) i 0 near ∙ get_or-drop skip piece i 0 ∙
    get_or-take size (drop first bytes) (skip + i) 0 (omega (arith, near, within)) ∙ get_or-drop first bytes (skip + i) 0 ∙
    ap (λ (k : ℕ). get_or bytes k 0) (omega arith) ∙
    sym (get_or-take m (drop (first + skip) bytes) i 0 near ∙ get_or-drop (first + skip) bytes i 0))

some_same : {A : Type 0} (x y : A) → Some x ≡ Some y → x ≡ y
some_same x y same = cc

-- a piece that was read and has the listed digest is the file's
pub told_piece : (reads : ℕ → List ℕ → Type 0) (size : ℕ) (digests : List (List ℕ)) (bytes piece : List ℕ) (number : ℕ) →
    IsTold reads size digests bytes → number * size < length bytes → reads (number * size) piece →
    length piece ≡ min size (length bytes - number * size) → listed digests number ≡ Some (sha256 piece) →
    piece ≡ piece_of size number bytes
told_piece reads size digests bytes piece number told there read len digest =
    told.apart number piece there read
    (omega (arith, len, length-take size (drop (number * size) bytes), length-drop (number * size) bytes))
    (some_same (sha256 piece) (sha256 (piece_of size number bytes)) (sym digest ∙ told.list number there))

not_both : (a b : ℕ) → a < b → b ≤ a → ⊥
not_both a b below above = omega (arith, below, above)

below_zero : (i : ℕ) → i < zero → ⊥
below_zero i below = omega (arith, below)

-- a fault that a read of a piece had
pub gave_one : (gave : ReadFault → Bool) (size n i : ℕ) (f : ReadFault) → i < n → f.place ≡ i * size → IsTrue (gave f) →
    IsTrue (any_gave gave size f.cause n)
unfolding any_gave
gave_one gave size zero i f below place gives = absurd (below_zero i below)
gave_one gave size (suc n) i f below place gives = elim (cases_lt i n) [
  | inl before ↦ or_right (gave (record { place = n * size; cause = f.cause })) (any_gave gave size f.cause n)
      (gave_one gave size n i f before place gives)
  | inr last ↦ or_left (gave (record { place = n * size; cause = f.cause })) (any_gave gave size f.cause n)
      (subst (λ p. IsTrue (gave (record { place = p; cause = f.cause }))) (place ∙ ap (λ k. k * size) (omega (arith, last, below))) gives)
]

pub gave_piece : (gave : ReadFault → Bool) (size len i m : ℕ) (f : ReadFault) → 0 < size → 0 < m → i * size + m ≤ len →
    f.place ≡ i * size → IsTrue (gave f) → IsTrue (any_gave gave size f.cause len || f.cause == differs)
gave_piece gave size len i m f some has within place gives =
    let few : i * 1 ≤ i * size = mul-le i 1 i size (omega arith) some in
    or_left (any_gave gave size f.cause len) (f.cause == differs) (gave_one gave size len i f (omega (arith, few, within, has)) place gives)

-- a part of a piece that is kept
pub part_is : (size : ℕ) (bytes piece got : List ℕ) (at m : ℕ) → at % size + m ≤ size → at + m ≤ length bytes → 0 < m →
    length piece ≡ min size (length bytes - at / size * size) → IsPieceOf size bytes (at / size) piece →
    got ≡ take (at - at / size * size + m - (at - at / size * size)) (drop (at - at / size * size) piece) → got ≡ take m (drop at bytes)
part_is size bytes piece got at m within there has long is got-is =
    let whole : at / size * size + at % size ≡ at = div-add-mod' at size in
    let first = at / size * size in
    let some : 0 < length piece = omega (arith, long, whole, within, there, has) in
    got-is ∙ ap (λ (k : ℕ). take k (drop (at - first) piece)) (omega arith) ∙
    ap (λ (xs : List ℕ). take m (drop (at - first) xs)) (is some) ∙
    part_of_piece size first (at - first) m bytes (omega (arith, whole, within)) ∙
    ap (λ (k : ℕ). take m (drop k bytes)) (omega (arith, whole))

-- the parts that were read so far, and one more
pub parts_more : (bytes buffer new : List ℕ) (at done n more : ℕ) → take done buffer ≡ take done (drop at bytes) →
    done + n ≤ length buffer →
    length new ≡ n → new ≡ take n (drop (at + done) bytes) → more ≡ done + n →
    take more (put_mid done n buffer new) ≡ take more (drop at bytes)
parts_more bytes buffer new at done n more before fits long new-is more-is =
    take-put_mid done n buffer new more (omega (arith, more-is, long)) (omega (arith, fits)) ∙
    ap (λ xs. xs ++ new) before ∙ ap (λ xs. take done (drop at bytes) ++ xs) new-is ∙
    ap (λ xs. take done (drop at bytes) ++ take n xs) (sym (drop-drop done at bytes ∙ ap (λ (k : ℕ). drop k bytes) (omega arith))) ∙
    sym (take-add done n (drop at bytes)) ∙
    ap (λ (k : ℕ). take k (drop at bytes)) (sym more-is)

-- so many bytes of the buffer's middle
pub middle : (buffer : List ℕ) (done count : ℕ) → done + count ≤ length buffer →
    length (take (done + count - done) (drop done buffer)) ≡ count
middle buffer done count fits =
    omega (arith, length-take (done + count - done) (drop done buffer), length-drop done buffer, fits)

-- one more part fits
pub step_within : (buffer new : List ℕ) (done count : ℕ) → done + count ≤ length buffer →
    length new ≡ length (take (done + count - done) (drop done buffer)) →
    done + count ≤ length (put_mid done (done + count - done) buffer new)
step_within buffer new done count fits long =
    let part = middle buffer done count fits in
    let all = put_mid done (done + count - done) buffer new in
    let front : take (done + count) all ≡ take done buffer ++ new =
    take-put_mid done (done + count - done) buffer new (done + count) (omega (arith, long, part)) (omega (arith, fits)) in
    let sizes : length (take (done + count) all) ≡ length (take done buffer) + length new =
    ap length front ∙ length-append (take done buffer) new in
    omega (arith, sizes, length-take (done + count) all, length-take done buffer, long, part, fits)

-- one more part is the file's
pub step_there : (bytes buffer new : List ℕ) (at done count : ℕ) → take done buffer ≡ take done (drop at bytes) →
    done + count ≤ length buffer → length new ≡ length (take (done + count - done) (drop done buffer)) →
    new ≡ take (length (take (done + count - done) (drop done buffer))) (drop (at + done) bytes) →
    take (done + count) (put_mid done (done + count - done) buffer new) ≡ take (done + count) (drop at bytes)
step_there bytes buffer new at done count before fits long new-is =
    let part = middle buffer done count fits in
    parts_more bytes buffer new at done (done + count - done) (done + count) before (omega (arith, fits)) (omega (arith, long, part))
    (new-is ∙ ap (λ (k : ℕ). take k (drop (at + done) bytes)) (omega (arith, part))) (omega arith)
