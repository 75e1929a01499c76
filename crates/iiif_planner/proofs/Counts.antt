-- What holds of each of some squares listed row by row, of each two of them, and how many of them pass a test.
use Rattle.std.proofs.Common.{◌≡◌, ℕ, zero, suc, ◌+◌, ◌-◌, ◌<◌, ◌≤◌, Bool, false, List, [], ◌∷◌, ◌++◌, map, refl, sym, ap, ◌∙◌, inl, inr}
use Rattle.std.proofs.Common.{arith, ⊎_elim}
use Rattle.std.specs.Prelude.{◌&&◌, ◌==◌}
use Rattle.std.specs.List.{All, AllPairs, count_by}
use Rattle.std.proofs.lemmas.Bool.{cases_lt, eq-eqb, ne_eqb, and_right}
use Rattle.std.proofs.lemmas.List.{append-nil, append_assoc}
use Rattle.std.proofs.lemmas.List.Elements.{All-nil, All-push, All-append}
use Rattle.std.proofs.lemmas.List.Quantifiers.{all_pairs_push}
use Rattle.std.proofs.lemmas.List.Sums.{sum_by-append, sum_by_push}
use Rattle.iiif_keys.proofs.Cuts.{counted, one_if, Halves, First, Second, Neither, within, within_yes, within_below, within_above}
use Rattle.iiif_planner.specs.declared.squares.Squares.{Squares}
use Rattle.iiif_planner.specs.Plans.{StandsBefore}
use Rattle.iiif_planner.specs.Items.{row_from, rows_from, each_square}

row_all : {K : Type 0} (f : ℕ → ℕ → K) (P : K → Type 0) (left j n : ℕ) → ((i : ℕ) → left ≤ i → i < left + n → P (f i j)) →
    All P (row_from f left j n)
unfolding row_from
row_all f P left j zero h = All-nil P
row_all f P left j (suc n) h = All-push P (row_from f left j n) (f (left + n) j) (row_all f P left j n (λ i l m. h i l (omega arith)))
    (h (left + n) (omega arith) (omega arith))

rows_all : {K : Type 0} (f : ℕ → ℕ → K) (P : K → Type 0) (left columns top n : ℕ) →
    ((i j : ℕ) → left ≤ i → i < left + columns → top ≤ j → j < top + n → P (f i j)) → All P (rows_from f left columns top n)
unfolding rows_from
rows_all f P left columns top zero h = All-nil P
rows_all f P left columns top (suc n) h =
    All-append P (rows_from f left columns top n) (row_from f left (top + n) columns)
    (rows_all f P left columns top n (λ i j a b c d. h i j a b c (omega arith)))
    (row_all f P left (top + n) columns (λ i a b. h i (top + n) a b (omega arith) (omega arith)))

pub each_all : {K : Type 0} (f : ℕ → ℕ → K) (P : K → Type 0) (s : Squares) →
    ((i j : ℕ) → s.left ≤ i → i < s.right → s.top ≤ j → j < s.bottom → P (f i j)) → All P (each_square f s)
each_all f P s h = rows_all f P s.left (s.right - s.left) s.top (s.bottom - s.top) (λ i j a b c d. h i j a (omega arith) c (omega arith))

-- a row after a list, where each of the list stands before each of the row
pairs_row : {K : Type 0} (f : ℕ → ℕ → K) (R : K → K → Type 0) (left j : ℕ) (xs : List K) → ((i k : ℕ) → i < k → R (f i j) (f k j)) →
    ((k : ℕ) → All (λ x. R x (f k j)) xs) →
    AllPairs R xs → (n : ℕ) → AllPairs R (xs ++ row_from f left j n)
unfolding row_from
pairs_row f R left j xs h before pairs zero = rw append-nil pairs
pairs_row f R left j xs h before pairs (suc n) =
    let y = f (left + n) j in
    let all = All-append (λ x. R x y) xs (row_from f left j n) (before (left + n))
    (row_all f (λ x. R x y) left j n (λ i l m. h i (left + n) m)) in
    rw (← append_assoc) (all_pairs_push R (xs ++ row_from f left j n) y (pairs_row f R left j xs h before pairs n) (λ k d l. all k d l))

rows_pairs : {K : Type 0} (f : ℕ → ℕ → K) (R : K → K → Type 0) (left columns top : ℕ) →
    ((i j k l : ℕ) → StandsBefore i j k l → R (f i j) (f k l)) → (n : ℕ) →
    AllPairs R (rows_from f left columns top n)
unfolding rows_from
rows_pairs f R left columns top h zero = λ i j d l m. absurd (omega arith)
rows_pairs f R left columns top h (suc n) =
    pairs_row f R left (top + n) (rows_from f left columns top n) (λ i k l. h i (top + n) k (top + n) (inr (refl, l)))
    (λ k. rows_all f (λ x. R x (f k (top + n))) left columns top n (λ i j a b c d. h i j k (top + n) (inl d)))
    (rows_pairs f R left columns top h n) columns

pub each_pair : {K : Type 0} (f : ℕ → ℕ → K) (R : K → K → Type 0) (s : Squares) →
    ((i j k l : ℕ) → StandsBefore i j k l → R (f i j) (f k l)) → AllPairs R (each_square f s)
each_pair f R s h = rows_pairs f R s.left (s.right - s.left) s.top h (s.bottom - s.top)

-- one number more
within_next : (from n x : ℕ) → Halves (within from n x) (from + n == x) (within from (suc n) x)
within_next from n x =
    ⊎_elim
    (λ (a : x < from). Neither (within_below from n x a) (ne_eqb _ _ (λ e. absurd (omega arith))) (within_below from (suc n) x a))
    (λ (a : from ≤ x). ⊎_elim
    (λ (b : x < from + n). First (within_yes from n x a b) (ne_eqb _ _ (λ e. absurd (omega arith)))
    (within_yes from (suc n) x a (omega arith)))
    (λ (b : from + n ≤ x). ⊎_elim
    (λ (c : x < from + suc n). Second (within_above from n x b) (eq-eqb _ _ (omega arith)) (within_yes from (suc n) x a c))
    (λ (c : from + suc n ≤ x). Neither (within_above from n x b) (ne_eqb _ _ (λ e. absurd (omega arith))) (within_above from (suc n) x c))
    (cases_lt x (from + suc n)))
    (cases_lt x (from + n)))
    (cases_lt x from)

halves_count : (h : Bool → Bool) → h false ≡ false → (a b w : Bool) → Halves a b w → one_if (h a) + one_if (h b) ≡ one_if (h w)
halves_count h z a b w (First p q r) = rw (p, q, r, z) (omega arith)
halves_count h z a b w (Second p q r) = rw (p, q, r, z) (omega arith)
halves_count h z a b w (Neither p q r) = rw (p, q, r, z) (omega arith)

none_within : (from x : ℕ) → within from zero x ≡ false
none_within from x =
    ⊎_elim
    (λ (a : x < from). within_below from zero x a)
    (λ (a : from ≤ x). within_above from zero x (omega arith))
    (cases_lt x from)

row_count : {K : Type 0} (f : ℕ → ℕ → K) (p : K → Bool) (h : Bool → Bool) (left j u : ℕ) → h false ≡ false →
    ((i : ℕ) → p (f i j) ≡ h (i == u)) → (n : ℕ) →
    count_by p (row_from f left j n) ≡ one_if (h (within left n u))
unfolding row_from
row_count f p h left j u z e zero = sym (ap (λ (b : Bool). one_if (h b)) (none_within left u) ∙ ap one_if z)
row_count f p h left j u z e (suc n) =
    let rest = row_count f p h left j u z e n in
    let one : one_if (p (f (left + n) j)) ≡ one_if (h (left + n == u)) = ap one_if (e (left + n)) in
    let sums = sum_by_push (λ k. one_if (p k)) (row_from f left j n) (f (left + n) j) in
    let joined = halves_count h z _ _ _ (within_next left n u) in
    sums ∙ (ap (λ (m : ℕ). m + one_if (p (f (left + n) j))) rest ∙ (ap (λ (m : ℕ). one_if (h (within left n u)) + m) one ∙ joined))

-- where just the square in column u and row v passes a test, and only if g is true
pub rows_count : {K : Type 0} (f : ℕ → ℕ → K) (p : K → Bool) (g : Bool) (u v left columns top : ℕ) →
    ((i j : ℕ) → p (f i j) ≡ (g && (i == u && j == v))) → (n : ℕ) →
    count_by p (rows_from f left columns top n) ≡ one_if (g && (within left columns u && within top n v))
unfolding rows_from
rows_count f p g u v left columns top e zero =
    sym (ap (λ (b : Bool). one_if (g && (within left columns u && b))) (none_within top v) ∙
    (ap (λ (b : Bool). one_if (g && b)) (and_right (within left columns u) false refl) ∙ ap one_if (and_right g false refl)))
rows_count f p g u v left columns top e (suc n) =
    let j = top + n in
    let w = within left columns u in
    let rest = rows_count f p g u v left columns top e n in
    let row = row_count f p (λ t. g && (t && j == v)) left j u (and_right g false refl) (λ i. e i j) columns in
    let sums = sum_by-append (λ k. one_if (p k)) (rows_from f left columns top n) (row_from f left j columns) in
    let joined = halves_count (λ t. g && (w && t)) (ap (λ (b : Bool). g && b) (and_right w false refl) ∙ and_right g false refl) _ _ _
    (within_next top n v) in
    sums ∙ (ap (λ (m : ℕ). m + count_by p (row_from f left j columns)) rest ∙
    (ap (λ (m : ℕ). one_if (g && (w && within top n v)) + m) row ∙ joined))

pub each_count : {K : Type 0} (f : ℕ → ℕ → K) (p : K → Bool) (g : Bool) (u v : ℕ) (s : Squares) →
    ((i j : ℕ) → p (f i j) ≡ (g && (i == u && j == v))) →
    count_by p (each_square f s) ≡ one_if (g && (within s.left (s.right - s.left) u && within s.top (s.bottom - s.top) v))
each_count f p g u v s e = rows_count f p g u v s.left (s.right - s.left) s.top e (s.bottom - s.top)

-- counting what is mapped
pub count_mapped : {K X : Type 0} (p : X → Bool) (h : K → X) (ks : List K) → count_by p (map h ks) ≡ count_by (λ k. p (h k)) ks
count_mapped p h [] = refl
count_mapped p h (k ∷ ks) = counted p (h k) (map h ks) ∙
    (ap (λ (n : ℕ). one_if (p (h k)) + n) (count_mapped p h ks) ∙ sym (counted (λ k. p (h k)) k ks))
