-- Lemmas on numbers that the proofs of the reader and of the writer share.
use Rattle.std.proofs.Common.{◌≡◌, ℕ, ◌+◌, ◌<◌, List, get_or, drop, refl, ap, ◌∙◌, add-zero, arith}
use Rattle.std.specs.Int.{div_ceil, w16}
use Rattle.std.proofs.lemmas.List.{get_or-drop}
use Rattle.iiif_tiff.specs.Tiff.{ByteOrder, Little, Big, number}

-- A strip as high as the image is its only piece.
pub one_piece : (n : ℕ) → 0 < n → div_ceil n n ≡ 1
one_piece n some = grind arith

-- The first byte from an offset on is the byte at the offset.
byte_behind : (xs : List ℕ) (at : ℕ) → get_or (drop at xs) 0 0 ≡ get_or xs at 0
byte_behind xs at = get_or-drop at xs 0 0 ∙ ap (λ (k : ℕ). get_or xs k 0) (add-zero at)

-- A number of 16 bits is determined by its two bytes.
pub same_number : (o : ByteOrder) (xs ys : List ℕ) (a b : ℕ) → get_or xs a 0 ≡ get_or ys b 0 → get_or xs (a + 1) 0 ≡ get_or ys (b + 1) 0 →
    number o w16 xs a ≡ number o w16 ys b
same_number Little xs ys a b e f = rw (byte_behind xs a, byte_behind ys b, get_or-drop a xs 1 0, get_or-drop b ys 1 0, e, f) refl
same_number Big xs ys a b e f = rw (byte_behind xs a, byte_behind ys b, get_or-drop a xs 1 0, get_or-drop b ys 1 0, e, f) refl
