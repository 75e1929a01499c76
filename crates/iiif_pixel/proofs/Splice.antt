-- The elements of a list of which a part was overwritten: in the part, below it and above it.
use Rattle.std.proofs.Common.{◌≡◌, ℕ, ◌+◌, ◌-◌, ◌<◌, ◌≤◌, List, ◌++◌, length, get_or, take, drop, ap, ◌∙◌, arith}
use Rattle.std.proofs.lemmas.List.{get_or-take, get_or-drop, get_or_append_left, get_or-append_right, length-take-le}
use borrow.Rule.Slice.PartMut.{put_mid, post_of}

-- in the part: the elements that were written
pub get_or-put_inside : (a k : ℕ) (xs ys : List ℕ) (i : ℕ) → a ≤ length xs → i < length ys →
    get_or (put_mid a k xs ys) (a + i) 0 ≡ get_or ys i 0
get_or-put_inside a k xs ys i within lt =
    let back : a + i - a ≡ i = omega arith in
    get_or-append_right (take a xs) (ys ++ post_of a k xs) a (a + i) 0 (length-take-le a xs within) (omega arith)
    ∙ ap (λ (n : ℕ). get_or (ys ++ post_of a k xs) n 0) back ∙ get_or_append_left ys (post_of a k xs) 0 i lt

-- below it: those that were there
pub get_or-put_below : (a k : ℕ) (xs ys : List ℕ) (i : ℕ) → a ≤ length xs → i < a → get_or (put_mid a k xs ys) i 0 ≡ get_or xs i 0
get_or-put_below a k xs ys i within lt =
    get_or_append_left (take a xs) (ys ++ post_of a k xs) 0 i (omega (arith, length-take-le a xs within)) ∙ get_or-take a xs i 0 lt

-- above it: those that were there
pub get_or-put_above : (a k : ℕ) (xs ys : List ℕ) (i : ℕ) → a ≤ length xs → length ys ≡ k → a + k ≤ i →
    get_or (put_mid a k xs ys) i 0 ≡ get_or xs i 0
get_or-put_above a k xs ys i within len le =
    let back : a + (k + (i - a - k)) ≡ i = omega arith in
    get_or-append_right (take a xs) (ys ++ post_of a k xs) a i 0 (length-take-le a xs within) (omega arith)
    ∙ get_or-append_right ys (post_of a k xs) k (i - a) 0 len (omega arith)
    ∙ get_or-drop k (drop a xs) (i - a - k) 0 ∙ get_or-drop a xs (k + (i - a - k)) 0 ∙ ap (λ (n : ℕ). get_or xs n 0) back
