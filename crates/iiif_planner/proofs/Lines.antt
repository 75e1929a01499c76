-- For a loop that goes through the squares row by row: what it has made before the square in column i and row j.
use Rattle.std.proofs.Common.{◌≡◌, ℕ, suc, ◌+◌, ◌-◌, ◌≤◌, List, [], ◌∷◌, ◌++◌, refl, sym, append_assoc, arith}
use Rattle.std.proofs.lemmas.List.{append-nil}
use Rattle.iiif_planner.specs.declared.squares.Squares.{Squares}
use Rattle.iiif_planner.specs.Items.{row_from, rows_from, each_square}

-- a row of no squares
pub row_none : {K : Type 0} (f : ℕ → ℕ → K) (left j n : ℕ) → n ≡ 0 → row_from f left j n ≡ []
unfolding row_from
row_none f left j n e = rw e refl

-- a row of one square more
pub row_suc : {K : Type 0} (f : ℕ → ℕ → K) (left j n : ℕ) → row_from f left j (suc n) ≡ row_from f left j n ++ f (left + n) j ∷ []
unfolding row_from
row_suc f left j n = refl

-- no rows
pub rows_none : {K : Type 0} (f : ℕ → ℕ → K) (left columns top n : ℕ) → n ≡ 0 → rows_from f left columns top n ≡ []
unfolding rows_from
rows_none f left columns top n e = rw e refl

-- one row more
pub rows_suc : {K : Type 0} (f : ℕ → ℕ → K) (left columns top n : ℕ) →
    rows_from f left columns top (suc n) ≡ rows_from f left columns top n ++ row_from f left (top + n) columns
unfolding rows_from
rows_suc f left columns top n = refl

unfoldable pub squares_before : {K : Type 0} → (ℕ → ℕ → K) → Squares → ℕ → ℕ → List K
squares_before f s i j = rows_from f s.left (s.right - s.left) s.top (j - s.top) ++ row_from f s.left j (i - s.left)

pub before_first : {K : Type 0} (f : ℕ → ℕ → K) (s : Squares) → squares_before f s s.left s.top ≡ []
unfolding squares_before
before_first f s = rw (
  rows_none f s.left (s.right - s.left) s.top (s.top - s.top) (omega arith),
  row_none f s.left s.top (s.left - s.left) (omega arith),
) refl

-- one square more
pub before_next : {K : Type 0} (f : ℕ → ℕ → K) (s : Squares) (i j : ℕ) → s.left ≤ i →
    squares_before f s (i + 1) j ≡ squares_before f s i j ++ f i j ∷ []
unfolding squares_before
before_next f s i j h =
    let e : i + 1 - s.left ≡ suc (i - s.left) = omega arith in
    let d : s.left + (i - s.left) ≡ i = omega arith in
    rw (e, row_suc f s.left j (i - s.left), d)
    (sym (append_assoc (rows_from f s.left (s.right - s.left) s.top (j - s.top)) (row_from f s.left j (i - s.left)) (f i j ∷ [])))

-- the end of a row is the start of the next
pub before_row : {K : Type 0} (f : ℕ → ℕ → K) (s : Squares) (i j : ℕ) → i - s.left ≡ s.right - s.left → s.top ≤ j →
    squares_before f s i j ≡ squares_before f s s.left (j + 1)
unfolding squares_before
before_row f s i j e h =
    let d : j + 1 - s.top ≡ suc (j - s.top) = omega arith in
    let a : s.top + (j - s.top) ≡ j = omega arith in
    let z = row_none f s.left (j + 1) (s.left - s.left) (omega arith) in
    rw (e, d, rows_suc f s.left (s.right - s.left) s.top (j - s.top), a, z, append-nil) refl

-- after the last row all are there
pub before_end : {K : Type 0} (f : ℕ → ℕ → K) (s : Squares) (j : ℕ) → j - s.top ≡ s.bottom - s.top →
    squares_before f s s.left j ≡ each_square f s
unfolding squares_before
before_end f s j e = rw (e, row_none f s.left j (s.left - s.left) (omega arith), append-nil) refl

-- a list after what f makes of the square is pushed
pub before_pushed : {K : Type 0} (f : ℕ → ℕ → K) (s : Squares) (i j : ℕ) (xs ys : List K) (x : K) → xs ≡ squares_before f s i j →
    ys ≡ xs ++ x ∷ [] → x ≡ f i j → s.left ≤ i →
    ys ≡ squares_before f s (i + 1) j
before_pushed f s i j xs ys x old new e h = rw (new, old, e, before_next f s i j h) refl

-- squares that are these by their sides have the same list
pub squares_listed : {K : Type 0} (f : ℕ → ℕ → K) (ks : List K) (s t : Squares) → ks ≡ each_square f s → s.left ≡ t.left →
    s.right ≡ t.right → s.top ≡ t.top → s.bottom ≡ t.bottom → ks ≡ each_square f t
squares_listed f ks s t e left right top bottom = rw (e, left, right, top, bottom) refl
