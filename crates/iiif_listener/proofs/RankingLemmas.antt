-- The connection that a ranking has first, looked for from the first place on.
use Rattle.std.proofs.Common.{◌≡◌, ℕ, ◌+◌, ◌<◌, ◌≤◌, ◌⊎◌, Bool, true, false, List, [], ◌∷◌, ◌++◌, Option, Some, None, length, get_or, take}
use Rattle.std.proofs.Common.{nat_lt, if◌then◌else◌, zero, suc, inl, inr, refl, sym, ap, subst, ◌∙◌, arith}
use Rattle.std.proofs.Math.Seq.{get_or-append_seam}
use Rattle.std.proofs.lemmas.List.{length-append, length-take-le, take_all, take_more}
use Rattle.iiif_listener.specs.declared.ranking.Ranking.{Ranking}
use Rattle.iiif_listener.specs.declared.ranking.Ranking.TheVariants.{Idle, Slow, Crowd}
use Rattle.iiif_listener.specs.declared.seat.Seat.{Seat}
use Rattle.iiif_listener.specs.Places.{IsFirst, NoneIsRanked, at, chosen, nobody, rank}

-- the connection at this place has this number
abbrev pub HasNumber : (Seat → Option ℕ) → List Seat → ℕ → ℕ → Type 0
HasNumber key seats place number = key (at seats place) ≡ Some number

-- what was found among these
abbrev pub IsChosen : (Seat → Option ℕ) → List Seat → Option (ℕ × ℕ) → Type 0
IsChosen key seats None = (place number : ℕ) → HasNumber key seats place number → ⊥
IsChosen key seats (Some found) =
    (found.0 < length seats) × HasNumber key seats found.0 found.1
    × ((other number : ℕ) → HasNumber key seats other number → found.1 ≤ number)

none_is_none : (o : Option ℕ) (t : ℕ) → o ≡ None → o ≡ Some t → ⊥
none_is_none o t none some = grind arith

same_number : (s t : ℕ) → Some s ≡ Some t → s ≡ t
same_number s t is = grind arith

suc_of : (i n : ℕ) → i ≡ n → suc i ≡ suc n
suc_of i n is = ap suc is

later_of : (key : Seat → Option ℕ) (i n t : ℕ) (x : Seat) (P : Type 0) → P ⊎ ((i ≡ n) × (key x ≡ Some t)) →
    P ⊎ ((suc i ≡ suc n) × (key x ≡ Some t))
later_of key i n t x P (inl p) = inl p
later_of key i n t x P (inr q) = inr (suc_of i n q.0, q.1)

-- who has a number among these and one more is one of these or that one
found_in : (key : Seat → Option ℕ) → key nobody ≡ None → (xs : List Seat) (x : Seat) (i t : ℕ) → HasNumber key (xs ++ x ∷ []) i t →
    HasNumber key xs i t ⊎ ((i ≡ length xs) × (key x ≡ Some t))
found_in key free [] x zero t is = inr (refl, is)
found_in key free [] x (suc i) t is = absurd (none_is_none (key nobody) t free is)
found_in key free (y ∷ ys) x zero t is = inl is
found_in key free (y ∷ ys) x (suc i) t is = later_of key i (length ys) t x (HasNumber key ys i t) (found_in key free ys x i t is)

stays : (key : Seat → Option ℕ) → key nobody ≡ None → (xs : List Seat) (x : Seat) (i t : ℕ) → HasNumber key xs i t →
    HasNumber key (xs ++ x ∷ []) i t
stays key free [] x i t is = absurd (none_is_none (key nobody) t free is)
stays key free (y ∷ ys) x zero t is = is
stays key free (y ∷ ys) x (suc i) t is = stays key free ys x i t is

last_is : (key : Seat → Option ℕ) (xs : List Seat) (x : Seat) (t : ℕ) → key x ≡ Some t → HasNumber key (xs ++ x ∷ []) (length xs) t
last_is key xs x t is = ap key (get_or-append_seam xs x [] nobody) ∙ is

is_longer : (xs : List Seat) (x : Seat) → length (xs ++ x ∷ []) ≡ length xs + 1
is_longer xs x = length-append xs (x ∷ [])

neither : (key : Seat → Option ℕ) (xs : List Seat) (x : Seat) (i t : ℕ) → ((t : ℕ) → key x ≡ Some t → ⊥) → IsChosen key xs None →
    HasNumber key xs i t ⊎ ((i ≡ length xs) × (key x ≡ Some t)) → ⊥
neither key xs x i t not_it none (inl p) = none i t p
neither key xs x i t not_it none (inr q) = not_it t q.1

none_more : (key : Seat → Option ℕ) → key nobody ≡ None → (xs : List Seat) (x : Seat) → ((t : ℕ) → key x ≡ Some t → ⊥) →
    IsChosen key xs None → IsChosen key (xs ++ x ∷ []) None
none_more key free xs x not_it none = λ i t is. neither key xs x i t not_it none (found_in key free xs x i t is)

either : (key : Seat → Option ℕ) (xs : List Seat) (x : Seat) (first i t : ℕ) → ((i t : ℕ) → HasNumber key xs i t → first ≤ t) →
    ((t : ℕ) → key x ≡ Some t → first ≤ t) → HasNumber key xs i t ⊎ ((i ≡ length xs) × (key x ≡ Some t)) → first ≤ t
either key xs x first i t before last (inl p) = before i t p
either key xs x first i t before last (inr q) = last t q.1

all_later : (key : Seat → Option ℕ) → key nobody ≡ None → (xs : List Seat) (x : Seat) (first : ℕ) →
    ((i t : ℕ) → HasNumber key xs i t → first ≤ t) → ((t : ℕ) → key x ≡ Some t → first ≤ t) → (i t : ℕ) →
    HasNumber key (xs ++ x ∷ []) i t → first ≤ t
all_later key free xs x first before last i t is = either key xs x first i t before last (found_in key free xs x i t is)

still_inside : (i : ℕ) (xs : List Seat) (x : Seat) → i < length xs → i < length (xs ++ x ∷ [])
still_inside i xs x inside = let longer = is_longer xs x in omega arith

inside_last : (xs : List Seat) (x : Seat) → length xs < length (xs ++ x ∷ [])
inside_last xs x = let longer = is_longer xs x in omega arith

-- one more that has none
same_found : (key : Seat → Option ℕ) → key nobody ≡ None → (xs : List Seat) (x : Seat) → ((t : ℕ) → key x ≡ Some t → ⊥) →
    (found : Option (ℕ × ℕ)) → IsChosen key xs found → IsChosen key (xs ++ x ∷ []) found
same_found key free xs x not_it None none = none_more key free xs x not_it none
same_found key free xs x not_it (Some f) so = (
  still_inside f.0 xs x so.0,
  stays key free xs x f.0 f.1 so.1,
  all_later key free xs x f.1 so.2 (λ t is. absurd (not_it t is)),
)

at_least : (s t : ℕ) → s ≡ t → s ≤ t
at_least s t is = omega arith

is_below : (a b : ℕ) → nat_lt a b ≡ true → a ≤ b
is_below a b is = grind arith

is_above : (a b : ℕ) → nat_lt a b ≡ false → b ≤ a
is_above a b is = grind arith

-- one more that has this number
of_two : (key : Seat → Option ℕ) → key nobody ≡ None → (xs : List Seat) (x : Seat) (number : ℕ) (f : ℕ × ℕ) (b : Bool) →
    key x ≡ Some number → nat_lt number f.1 ≡ b → IsChosen key xs (Some f) →
    IsChosen key (xs ++ x ∷ []) (if b then Some (length xs, number) else Some f)
of_two key free xs x number f true is lt so = (
  inside_last xs x,
  last_is key xs x number is,
  all_later key free xs x number (λ i t old. let before = so.2 i t old in let below = is_below number f.1 lt in omega arith)
      (λ t other. at_least number t (same_number number t (sym is ∙ other))),
)
of_two key free xs x number f false is lt so = (
  still_inside f.0 xs x so.0,
  stays key free xs x f.0 f.1 so.1,
  all_later key free xs x f.1 so.2
      (λ t other. let same = same_number number t (sym is ∙ other) in let above = is_above number f.1 lt in omega arith),
)

one_found : (key : Seat → Option ℕ) → key nobody ≡ None → (xs : List Seat) (x : Seat) (number : ℕ) → key x ≡ Some number →
    (found : Option (ℕ × ℕ)) → IsChosen key xs found → IsChosen key (xs ++ x ∷ []) (chosen found (length xs) (Some number))
one_found key free xs x number is None none = (
  inside_last xs x,
  last_is key xs x number is,
  all_later key free xs x number (λ i t old. absurd (none i t old)) (λ t other. at_least number t (same_number number t (sym is ∙ other))),
)
one_found key free xs x number is (Some f) so = of_two key free xs x number f (nat_lt number f.1) is refl so

by_number : (key : Seat → Option ℕ) → key nobody ≡ None → (xs : List Seat) (x : Seat) (n : Option ℕ) (found : Option (ℕ × ℕ)) →
    key x ≡ n → IsChosen key xs found → IsChosen key (xs ++ x ∷ []) (chosen found (length xs) n)
by_number key free xs x None None is so = same_found key free xs x (λ t other. none_is_none (key x) t is other) None so
by_number key free xs x None (Some f) is so = same_found key free xs x (λ t other. none_is_none (key x) t is other) (Some f) so
by_number key free xs x (Some number) found is so = one_found key free xs x number is found so

-- the next one, at the place behind those
next_is : (key : Seat → Option ℕ) → key nobody ≡ None → (xs : List Seat) (x : Seat) (found : Option (ℕ × ℕ)) → IsChosen key xs found →
    IsChosen key (xs ++ x ∷ []) (chosen found (length xs) (key x))
next_is key free xs x found so = by_number key free xs x (key x) found refl so

-- ---- In the loop's words

-- nobody has a number in any ranking
nobody_is_ranked : (r : Ranking) (seats : List Seat) → rank r seats nobody ≡ None
nobody_is_ranked Idle seats = refl
nobody_is_ranked (Slow now) seats = refl
nobody_is_ranked (Crowd address) seats = refl

pub next_at : (r : Ranking) (seats : List Seat) (i : ℕ) (d : Seat) (found : Option (ℕ × ℕ)) → i < length seats →
    IsChosen (rank r seats) (take i seats) found →
    IsChosen (rank r seats) (take (i + 1) seats) (chosen found i (rank r seats (get_or seats i d)))
next_at r seats i d found inside so =
    let count = length-take-le i seats (omega arith) in
    let more = sym (take_more seats i d inside) in
    let number = rank r seats (get_or seats i d) in
    subst (λ (all : List Seat). IsChosen (rank r seats) all (chosen found i number)) more
    (subst (λ (n : ℕ). IsChosen (rank r seats) (take i seats ++ get_or seats i d ∷ []) (chosen found n number)) count
    (next_is (rank r seats) (nobody_is_ranked r seats) (take i seats) (get_or seats i d) found so))

pub none_at_first : (r : Ranking) (seats : List Seat) → IsChosen (rank r seats) (take 0 seats) None
none_at_first r seats i t is = absurd (none_is_none (rank r seats nobody) t (nobody_is_ranked r seats) is)

pub first_of : (r : Ranking) (seats : List Seat) (n place number : ℕ) → length seats ≤ n →
    IsChosen (rank r seats) (take n seats) (Some (place, number)) → IsFirst r seats place
first_of r seats n place number all so =
    let is = subst (λ (xs : List Seat). IsChosen (rank r seats) xs (Some (place, number))) (take_all n seats all) so in
    (number, is.1, is.2)

pub inside_of : (r : Ranking) (seats : List Seat) (n place number : ℕ) → length seats ≤ n →
    IsChosen (rank r seats) (take n seats) (Some (place, number)) → place < length seats
inside_of r seats n place number all so =
    let is = subst (λ (xs : List Seat). IsChosen (rank r seats) xs (Some (place, number))) (take_all n seats all) so in
    is.0

pub none_of : (r : Ranking) (seats : List Seat) (n : ℕ) → length seats ≤ n → IsChosen (rank r seats) (take n seats) None →
    NoneIsRanked r seats
none_of r seats n all so = subst (λ (xs : List Seat). IsChosen (rank r seats) xs None) (take_all n seats all) so
