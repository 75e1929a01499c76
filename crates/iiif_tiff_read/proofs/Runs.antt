-- Parts of a list.
use Rattle.std.proofs.Common.{◌≡◌, ℕ, ◌+◌, ◌≤◌, List, length, drop, arith}
use Rattle.std.proofs.lemmas.List.{length-take, length-drop}
use borrow.Rule.Slice.PartMut.{mid_of}

-- A part of a list within it has its length.
pub length-mid : (a k n : ℕ) (xs : List ℕ) → k ≡ n → a + n ≤ length xs → length (mid_of a k xs) ≡ n
length-mid a k n xs k-is fits = omega (arith, length-take k (drop a xs), length-drop a xs, k-is)
