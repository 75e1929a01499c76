-- The squares of a smaller grid, by their places among those of a larger one, listed row by row.
use Rattle.std.proofs.Common.{◌≡◌, ℕ, zero, suc, ◌+◌, ◌-◌, ◌*◌, ◌<◌, ◌≤◌, min, Bool}
use Rattle.std.proofs.Common.{true, false, List, [], ◌∷◌, ◌++◌, length, refl, sym, ap, ◌∙◌}
use Rattle.std.proofs.Common.{arith, ⊎_elim, if◌then◌else◌}
use Rattle.std.specs.Prelude.{nat_le, nat_lt, ◌&&◌}
use Rattle.std.proofs.lemmas.Bool.{cases_lt, and_from, and_parts, and_right, false_from_ne_true, le-leb, lt-ltb, leb-true, ltb-true}
use Rattle.std.proofs.lemmas.List.{append-nil, length-append, length_push}
use Rattle.iiif_planner.specs.declared.squares.Squares.{Squares}
use Rattle.iiif_planner.specs.Items.{row_from, rows_from, each_square}
use Rattle.iiif_planner.specs.Bands.{places_from}
use Rattle.iiif_planner.specs.Code.{place_among}
use Rattle.iiif_planner.proofs.Lines.{row_none, row_suc, rows_none, rows_suc}

-- x is at least p and below q
abbrev pub between : ℕ → ℕ → ℕ → Bool
between p q x = nat_le p x && nat_lt x q

between_yes : (p q x : ℕ) → p ≤ x → x < q → between p q x ≡ true
between_yes p q x a b = and_from _ _ (le-leb p x a) (lt-ltb x q b)

between_below : (p q x : ℕ) → x < p → between p q x ≡ false
between_below p q x a = false_from_ne_true (between p q x)
    (λ h. let t = and_parts (nat_le p x) (nat_lt x q) h in absurd (omega (arith, leb-true p x t.0)))

between_above : (p q x : ℕ) → q ≤ x → between p q x ≡ false
between_above p q x a = false_from_ne_true (between p q x)
    (λ h. let t = and_parts (nat_le p x) (nat_lt x q) h in absurd (omega (arith, ltb-true x q t.1)))

more : (b : Bool) (n : ℕ) (q p t : List ℕ) → q ≡ p ++ t → (if b then n ∷ q else q) ≡ (if b then n ∷ p else p) ++ t
more true n q p t e = ap (λ ys. n ∷ ys) e
more false n q p t e = e

-- places in two lists, one behind the other
pub places_from-append : {K : Type 0} (n : ℕ) (test : K → Bool) (xs ys : List K) →
    places_from n test (xs ++ ys) ≡ places_from n test xs ++ places_from (n + length xs) test ys
unfolding places_from
places_from-append n test [] ys =
    let e : n ≡ n + 0 = omega arith in
    ap (λ m. places_from m test ys) e
places_from-append n test (x ∷ xs) ys =
    let e : n + 1 + length xs ≡ n + length (x ∷ xs) = omega arith in
    more (test x) n _ _ _ (places_from-append (n + 1) test xs ys) ∙
    ap (λ m. (if test x then n ∷ places_from (n + 1) test xs else places_from (n + 1) test xs) ++ places_from m test ys) e

places_from-one : {K : Type 0} (n : ℕ) (test : K → Bool) (x : K) → places_from n test (x ∷ []) ≡ (if test x then n ∷ [] else [])
unfolding places_from
places_from-one n test x = refl

-- a test that nothing passes
pub places_from-none : {K : Type 0} (n : ℕ) (test : K → Bool) (keys : List K) → ((k : K) → test k ≡ false) → places_from n test keys ≡ []
unfolding places_from
places_from-none n test [] h = refl
places_from-none n test (k ∷ ks) h =
    ap (λ (b : Bool). if b then n ∷ places_from (n + 1) test ks else places_from (n + 1) test ks) (h k)
    ∙ places_from-none (n + 1) test ks h

-- tests that agree list the same places
pub places_from-same : {K : Type 0} (n : ℕ) (test other : K → Bool) (keys : List K) → ((k : K) → test k ≡ other k) →
    places_from n test keys ≡ places_from n other keys
unfolding places_from
places_from-same n test other [] h = refl
places_from-same n test other (k ∷ ks) h =
    ap (λ (b : Bool). if b then n ∷ places_from (n + 1) test ks else places_from (n + 1) test ks) (h k)
    ∙ ap (λ ys. if other k then n ∷ ys else ys) (places_from-same (n + 1) test other ks h)

-- an empty list has no place
pub places_from-nil : {K : Type 0} (n : ℕ) (test : K → Bool) → places_from n test [] ≡ []
unfolding places_from
places_from-nil n test = refl

row_length : {K : Type 0} (f : ℕ → ℕ → K) (left j n : ℕ) → length (row_from f left j n) ≡ n
unfolding row_from
row_length f left j zero = refl
row_length f left j (suc n) =
    let h = row_length f left j n in
    let l = length_push (row_from f left j n) (f (left + n) j) in
    omega arith

rows_length : {K : Type 0} (f : ℕ → ℕ → K) (left columns top n : ℕ) → length (rows_from f left columns top n) ≡ n * columns
unfolding rows_from
rows_length f left columns top zero = omega arith
rows_length f left columns top (suc n) =
    let h = rows_length f left columns top n in
    let r = row_length f left (top + n) columns in
    let l = length-append (rows_from f left columns top n) (row_from f left (top + n) columns) in
    omega arith

-- Of a run of numbers from p on, up to k there are a, and b up to k + 1: k is one of them or isn't.
data Run (t : Bool) (p k a b : ℕ) : Type 0 where
  In : t ≡ true → b ≡ suc a → p + a ≡ k → Run t p k a b
  Out : t ≡ false → b ≡ a → Run t p k a b

run_next : (p q k : ℕ) → Run (between p q k) p k (min k q - p) (min (suc k) q - p)
run_next p q k =
    ⊎_elim
    (λ (a : k < p). Out (between_below p q k a) (omega arith))
    (λ (a : p ≤ k). ⊎_elim
    (λ (b : k < q). In (between_yes p q k a b) (omega arith) (omega arith))
    (λ (b : q ≤ k). Out (between_above p q k b) (omega arith))
    (cases_lt k q))
    (cases_lt k p)

row_grown : (g : ℕ → ℕ → ℕ) (p j k m a b : ℕ) (t : Bool) → Run t p k a b → g k j ≡ m →
    row_from g p j a ++ (if t then m ∷ [] else []) ≡ row_from g p j b
row_grown g p j k m a b t (In is_in one at) e = rw (is_in, one, row_suc g p j a, at, e) refl
row_grown g p j k m a b t (Out is_out same) e = rw (is_out, same, append-nil) refl

-- of a row from `left` on the squares of the columns p to q, counted from m on
row_places : {K : Type 0} (f : ℕ → ℕ → K) (test : K → Bool) (g : ℕ → ℕ → ℕ) (m left j p q n : ℕ) → left ≤ p →
    ((i : ℕ) → left ≤ i → i < left + n → test (f i j) ≡ between p q i) →
    ((i : ℕ) → left ≤ i → g i j ≡ m + (i - left)) →
    places_from m test (row_from f left j n) ≡ row_from g p j (min (left + n) q - p)
row_places f test g m left j p q zero low tested at =
    ap (λ ys. places_from m test ys) (row_none f left j zero refl)
    ∙ places_from-nil m test
    ∙ sym (row_none g p j (min (left + zero) q - p) (omega arith))
row_places f test g m left j p q (suc n) low tested at =
    let k = left + n in
    let before = row_places f test g m left j p q n low (λ i a b. tested i a (omega arith)) at in
    let len : m + length (row_from f left j n) ≡ m + n = let h = row_length f left j n in omega arith in
    let here : g k j ≡ m + n = at k (omega arith) ∙ omega arith in
    let end : min (suc k) q - p ≡ min (left + suc n) q - p = omega arith in
    ap (λ ys. places_from m test ys) (row_suc f left j n)
    ∙ places_from-append m test (row_from f left j n) (f k j ∷ [])
    ∙ ap (λ ys. ys ++ places_from (m + length (row_from f left j n)) test (f k j ∷ [])) before
    ∙ ap (λ d. row_from g p j (min k q - p) ++ places_from d test (f k j ∷ [])) len
    ∙ ap (λ ys. row_from g p j (min k q - p) ++ ys) (places_from-one (m + n) test (f k j))
    ∙ ap (λ (b : Bool). row_from g p j (min k q - p) ++ (if b then (m + n) ∷ [] else [])) (tested k (omega arith) (omega arith))
    ∙ row_grown g p j k (m + n) (min k q - p) (min (suc k) q - p) (between p q k) (run_next p q k) here
    ∙ ap (λ d. row_from g p j d) end

rows_grown : (g : ℕ → ℕ → ℕ) (p columns u k a b : ℕ) (t : Bool) (row : List ℕ) → Run t u k a b →
    row ≡ (if t then row_from g p k columns else []) →
    rows_from g p columns u a ++ row ≡ rows_from g p columns u b
rows_grown g p columns u k a b t row (In is_in one at) e = rw (e, is_in, one, rows_suc g p columns u a, at) refl
rows_grown g p columns u k a b t row (Out is_out same) e = rw (e, is_out, same, append-nil) refl

and_true : (b : Bool) → (b && true) ≡ b
and_true true = refl
and_true false = refl

-- a row that is one of the rows, or isn't
row_listed : {K : Type 0} (f : ℕ → ℕ → K) (test : K → Bool) (g : ℕ → ℕ → ℕ) (m left j p q n : ℕ) (t : Bool) → left ≤ p → q ≤ left + n →
    ((i : ℕ) → left ≤ i → i < left + n → test (f i j) ≡ (between p q i && t)) →
    ((i : ℕ) → left ≤ i → g i j ≡ m + (i - left)) →
    places_from m test (row_from f left j n) ≡ (if t then row_from g p j (q - p) else [])
row_listed f test g m left j p q n true low high tested at =
    let end : min (left + n) q - p ≡ q - p = omega arith in
    row_places f test g m left j p q n low (λ i a b. tested i a b ∙ and_true (between p q i)) at
    ∙ ap (λ d. row_from g p j d) end
row_listed f test g m left j p q n false low high tested at =
    row_places f test g m left j p 0 n low
    (λ i a b. tested i a b ∙ and_right (between p q i) false refl ∙ sym (between_above p 0 i (omega arith))) at
    ∙ row_none g p j (min (left + n) 0 - p) (omega arith)

-- of rows from `top` on the squares of the columns p to q and the rows u to v
rows_places : {K : Type 0} (f : ℕ → ℕ → K) (test : K → Bool) (g : ℕ → ℕ → ℕ) (left columns top p q u v n : ℕ) → left ≤ p →
    q ≤ left + columns → top ≤ u →
    ((i j : ℕ) → left ≤ i → i < left + columns → top ≤ j → j < top + n → test (f i j) ≡ (between p q i && between u v j)) →
    ((i j : ℕ) → left ≤ i → top ≤ j → g i j ≡ (j - top) * columns + (i - left)) →
    places_from 0 test (rows_from f left columns top n) ≡ rows_from g p (q - p) u (min (top + n) v - u)
rows_places f test g left columns top p q u v zero low high upper tested at =
    ap (λ ys. places_from 0 test ys) (rows_none f left columns top zero refl)
    ∙ places_from-nil 0 test
    ∙ sym (rows_none g p (q - p) u (min (top + zero) v - u) (omega arith))
rows_places f test g left columns top p q u v (suc n) low high upper tested at =
    let k = top + n in
    let m = 0 + length (rows_from f left columns top n) in
    let len : m ≡ n * columns = let h = rows_length f left columns top n in omega arith in
    let before = rows_places f test g left columns top p q u v n low high upper (λ i j a b c d. tested i j a b c (omega arith)) at in
    let down : k - top ≡ n = omega arith in
    let row = row_listed f test g m left k p q columns (between u v k) low high
    (λ i a b. tested i k a b (omega arith) (omega arith))
    (λ i a. at i k a (omega arith) ∙ ap (λ d. d * columns + (i - left)) down ∙ ap (λ d. d + (i - left)) (sym len)) in
    let end : min (suc k) v - u ≡ min (top + suc n) v - u = omega arith in
    ap (λ ys. places_from 0 test ys) (rows_suc f left columns top n)
    ∙ places_from-append 0 test (rows_from f left columns top n) (row_from f left k columns)
    ∙ ap (λ ys. ys ++ places_from m test (row_from f left k columns)) before
    ∙ rows_grown g p (q - p) u k (min k v - u) (min (suc k) v - u) (between u v k) _ (run_next u v k) row
    ∙ ap (λ d. rows_from g p (q - p) u d) end

-- The squares of a grid that pass a test stand where those of a smaller grid do, where the test says which are in the smaller one.
pub squares_places : {K : Type 0} (f : ℕ → ℕ → K) (test : K → Bool) (all some : Squares) → all.left ≤ all.right → all.top ≤ all.bottom →
    all.left ≤ some.left → some.right ≤ all.right → all.top ≤ some.top → some.bottom ≤ all.bottom →
    ((i j : ℕ) → all.left ≤ i → i < all.right → all.top ≤ j → j < all.bottom →
    test (f i j) ≡ (between some.left some.right i && between some.top some.bottom j)) →
    places_from 0 test (each_square f all) ≡ each_square (place_among all) some
squares_places f test all some wide high left right top bottom tested =
    let rows : min (all.top + (all.bottom - all.top)) some.bottom - some.top ≡ some.bottom - some.top = omega arith in
    rows_places f test (place_among all) all.left (all.right - all.left) all.top some.left some.right some.top some.bottom
    (all.bottom - all.top) left (omega arith) top
    (λ i j a b c d. tested i j a (omega arith) c (omega arith)) (λ i j a b. refl)
    ∙ ap (λ n. rows_from (place_among all) some.left (some.right - some.left) some.top n) rows
