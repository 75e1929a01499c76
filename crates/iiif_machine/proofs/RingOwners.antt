-- The owner as a function is the ring's owner, and it is a node's name.
use Rattle.std.proofs.Common.{◌≡◌, ℕ, zero, suc, ◌-◌, ◌<◌, ◌≤◌, ◌⊎◌, inl, inr, List, [], ◌∷◌, length, min, fold, Bool, true, false, Some}
use Rattle.std.proofs.Common.{refl, sym, ap, subst, ◌∙◌, ⊎_elim, arith, if◌then◌else◌}
use Rattle.std.specs.Prelude.{slice_get, position, ◌==◌, ◌&&◌, nat_lt}
use Rattle.std.specs.Str.{bytes_eq}
use Rattle.std.specs.Ordering.{is_gt, nat_cmp}
use Rattle.std.specs.Cmp.Lexicographic.{slice_cmp}
use Rattle.std.proofs.Math.Nat.{min-le_left, min-le_right}
use Rattle.std.proofs.lemmas.Bool.{cases_lt, ltb-true, lt-ltb, eqb-true, eqb-false, and_parts, or_cases, or_parts}
use Rattle.std.proofs.lemmas.Slice.Eq.{bytes_eq-Decides}
use Rattle.std.proofs.lemmas.Option.{slice_get_within, get_or_from_slice_get, slice_get-get_or, same_Some}
use Rattle.iiif_ring.specs.Owner.{replicas, distance_from, IsUpTo}
use Rattle.iiif_ring.proofs.Names.{IsUpTo-refl, IsUpTo-trans, IsUpTo-other}
use Rattle.iiif_machine.specs.Keys.{key_bytes}
use Rattle.iiif_machine.proofs.Lists.{get_map}
use Rattle.iiif_machine.specs.Types.{Key}
use Rattle.iiif_machine.specs.Owners.{least, nearest, is_before, first_of, owner}
use Rattle.iiif_machine.specs.Rows.{Node}
use Rattle.iiif_machine.specs.Worlds.{World, owner_of}
use Rattle.iiif_machine.specs.Sound.{Each, card_of, IsPlaced}
use Rattle.iiif_machine.specs.Promises.{OwnerIsTheRings}
use Rattle.iiif_machine.proofs.Lists.{each_nil, each_cons}
use Rattle.iiif_machine.proofs.Learning.{get_mapped}
use Rattle.iiif_machine.proofs.Listed.{position_there}

-- the least is reached, and nothing is below it

min_cases : (a b : ℕ) → (min a b ≡ a) ⊎ (min a b ≡ b)
min_cases a b = ⊎_elim (λ (h : a < b). inl (omega (arith, h))) (λ (h : b ≤ a). inr (omega (arith, h))) (cases_lt a b)

least_at : (f : ℕ → ℕ) (n : ℕ) → (i : ℕ) × (i < suc n) × (f i ≡ least f n)
least_at f zero = (0, omega arith, refl)
least_at f (suc n) =
    let before = least_at f n in
    ⊎_elim
    (λ (e : min (least f n) (f (suc n)) ≡ least f n). (before.0, (let h = before.1 in omega arith), before.2 ∙ sym e))
    (λ (e : min (least f n) (f (suc n)) ≡ f (suc n)). (suc n, omega arith, sym e))
    (min_cases (least f n) (f (suc n)))

least_below : (f : ℕ → ℕ) (n i : ℕ) → i < suc n → least f n ≤ f i
least_below f zero i h = let e : i ≡ 0 = omega arith in subst (λ j. f 0 ≤ f j) (sym e) (omega arith)
least_below f (suc n) i h =
    ⊎_elim
    (λ (less : i < suc n). let a = least_below f n i less in let b = min-le_left (least f n) (f (suc n)) in omega arith)
    (λ (last : suc n ≤ i). let e : i ≡ suc n = omega arith in
    subst (λ j. min (least f n) (f (suc n)) ≤ f j) (sym e) (min-le_right (least f n) (f (suc n))))
    (cases_lt i (suc n))

-- a name comes no later than another
abbrev Before : List ℕ → List ℕ → List ℕ → Type 0
Before key a b = (nearest key a < nearest key b) ⊎ ((nearest key a ≡ nearest key b) × IsUpTo a b)

before_same : (key a : List ℕ) → Before key a a
before_same key a = inr (refl, IsUpTo-refl a)

before_trans : (key a b c : List ℕ) → Before key a b → Before key b c → Before key a c
before_trans key a b c p q =
    ⊎_elim
    (λ (x : nearest key a < nearest key b). ⊎_elim
    (λ (y : nearest key b < nearest key c). inl (omega arith))
    (λ (y : (nearest key b ≡ nearest key c) × IsUpTo b c). let e = y.0 in inl (omega arith)) q)
    (λ (x : (nearest key a ≡ nearest key b) × IsUpTo a b). let d = x.0 in ⊎_elim
    (λ (y : nearest key b < nearest key c). inl (omega arith))
    (λ (y : (nearest key b ≡ nearest key c) × IsUpTo b c). inr (d ∙ y.0, IsUpTo-trans a b c x.1 y.1)) q) p

not_both : (a b : Bool) → (a && b) ≡ false → a ≡ true → b ≡ false
not_both true b h e = h
not_both false b h e = absurd cc

is_before_is : (key a b : List ℕ) → is_before key a b ≡ true → Before key a b
is_before_is key a b h =
    ⊎_elim
    (λ (nearer : nat_lt (nearest key a) (nearest key b) ≡ true). inl (ltb-true (nearest key a) (nearest key b) nearer))
    (λ (level : ((nearest key a == nearest key b) && is_gt (slice_cmp nat_cmp b a)) ≡ true).
    let both = and_parts (nearest key a == nearest key b) (is_gt (slice_cmp nat_cmp b a)) level in
    inr (eqb-true (nearest key a) (nearest key b) both.0, IsUpTo-other b a both.1))
    (or_cases (nat_lt (nearest key a) (nearest key b)) _ h)

not_before_is : (key a b : List ℕ) → is_before key a b ≡ false → Before key b a
not_before_is key a b h =
    let nots = or_parts (nat_lt (nearest key a) (nearest key b)) _ h in
    ⊎_elim
    (λ (nearer : nearest key a < nearest key b). (let yes = lt-ltb (nearest key a) (nearest key b) nearer in let no = nots.0 in absurd cc))
    (λ (far : nearest key b ≤ nearest key a). ⊎_elim
    (λ (less : nearest key b < nearest key a). inl less)
    (λ (past : nearest key a ≤ nearest key b).
    let same : nearest key b ≡ nearest key a = omega arith in
    inr (
      same,
      not_both (nearest key a == nearest key b) (is_gt (slice_cmp nat_cmp b a)) nots.1
          (eq_of (nearest key a) (nearest key b) (sym same)),
    ))
    (cases_lt (nearest key b) (nearest key a)))
    (cases_lt (nearest key a) (nearest key b))
  where
    eq_of : (m n : ℕ) → m ≡ n → (m == n) ≡ true
    eq_of m n e = (elim (m == n) as (λ b. (m == n) ≡ b → b ≡ true) [
      | true ↦ λ h. refl
      | false ↦ λ h. absurd (eqb-false m n h e)
    ]) refl

record IsFirst (key a b c : List ℕ) : Type 0 where
  left : Before key c a
  right : Before key c b
  one : (c ≡ a) ⊎ (c ≡ b)

first_by : (key a b : List ℕ) (x : Bool) → is_before key b a ≡ x → IsFirst key a b (if x then b else a)
first_by key a b true h = record { left = is_before_is key b a h; right = before_same key b; one = inr refl }
first_by key a b false h = record { left = before_same key a; right = not_before_is key b a h; one = inl refl }

first_is : (key a b : List ℕ) → IsFirst key a b (first_of key a b)
first_is key a b = first_by key a b (is_before key b a) refl

-- one of a list, which comes no later than each
record IsLeader (key : List ℕ) (names : List (List ℕ)) (c : List ℕ) : Type 0 where
  at : (i : ℕ) × (slice_get names i ≡ Some c)
  first : Each (Before key c) names

fold_leads : (key name : List ℕ) (names : List (List ℕ)) → IsLeader key (name ∷ names) (fold (first_of key) name names)
fold_leads key name [] = record {
  at = (0, refl);
  first =
      each_cons (Before key name) name [] (before_same key name) (each_nil (Before key name));
}
fold_leads key name (next ∷ names) =
    let c = first_of key name next in
    let is = first_is key name next in
    let rest = fold_leads key c names in
    let r = fold (first_of key) c names in
    let over : Before key r c = rest.first 0 c refl in
    record {
      at = place key name next names r is.one rest.at.0 rest.at.1;
      first = each_cons (Before key r) name (next ∷ names) (before_trans key r c name over is.left)
          (each_cons (Before key r) next names (before_trans key r c next over is.right) (λ i x h. rest.first (suc i) x h));
    }
  where
    place : (key name next : List ℕ) (names : List (List ℕ)) (r : List ℕ) → (first_of key name next ≡ name) ⊎
        (first_of key name next ≡ next) → (i : ℕ) →
        slice_get (first_of key name next ∷ names) i ≡ Some r → (j : ℕ) × (slice_get (name ∷ next ∷ names) j ≡ Some r)
    place key name next names r one zero h =
        let same = same_Some (first_of key name next) r h in
        ⊎_elim
        (λ (e : first_of key name next ≡ name). (0, ap Some (sym e ∙ same)))
        (λ (e : first_of key name next ≡ next). (1, ap Some (sym e ∙ same))) one
    place key name next names r one (suc i) h = (suc (suc i), h)

owner_leads : (names : List (List ℕ)) (key : List ℕ) → 0 < length names → IsLeader key names (owner names key)
unfolding owner
owner_leads [] key h = absurd (omega arith)
owner_leads (name ∷ names) key h = fold_leads key name names

pub owner_is_the_rings : OwnerIsTheRings
unfolding nearest
owner_is_the_rings names key some =
    let is = owner_leads names key some in
    let own = owner names key in
    let reached = least_at (distance_from key own) (replicas - 1) in
    record {
      named = (is.at.0, slice_get_within names is.at.0 own is.at.1, get_or_from_slice_get names is.at.0 own own is.at.1);
      replica = reached.0;
      numbered = reached.1;
      first = λ other r there numbered.
          let at : slice_get names there.0 ≡ Some other = slice_get-get_or names there.0 other there.1 ∙ ap Some there.2 in
          let below = least_below (distance_from key other) (replicas - 1) r numbered in
          let here = reached.2 in
          ⊎_elim
          (λ (nearer : nearest key own < nearest key other). inl (omega arith))
          (λ (level : (nearest key own ≡ nearest key other) × IsUpTo own other).
          let same = level.0 in
          ⊎_elim
          (λ (less : distance_from key own reached.0 < distance_from key other r). inl less)
          (λ (past : distance_from key other r ≤ distance_from key own reached.0). inr ((omega arith), level.1))
          (cases_lt (distance_from key own reached.0) (distance_from key other r)))
          (is.first there.0 other at);
    }

-- the node that owns a key is there
pub owner_there : (w : World) (i : ℕ) (n : Node) (k : Key) → IsPlaced w → slice_get w.nodes i ≡ Some n →
    (o : ℕ) × (position (λ m. bytes_eq m.name (owner_of n k)) w.nodes ≡ Some o)
unfolding owner_of
owner_there w i n k h at =
    let named = h.rings i (card_of n) (get_map card_of w.nodes i n at) in
    let leader = owner_leads n.ring (key_bytes k) named.0 in
    let own = owner n.ring (key_bytes k) in
    let node = named.1 leader.at.0 own leader.at.1 in
    let m = get_mapped card_of w.nodes node.0 node.1 node.2 in
    let same : m.0.name ≡ own = ap (λ c. c.name) m.2 ∙ node.3 in
    position_there (λ z. bytes_eq z.name own) w.nodes node.0 m.0 m.1 ((bytes_eq-Decides m.0.name own).1 same)
