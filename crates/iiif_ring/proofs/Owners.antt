-- The owner of a key is the name at the next point, and no other name.
use Rattle.std.proofs.Common.{◌≡◌, ℕ, ◌<◌, ◌≤◌, ◌^◌, List, [], length, Some, None, is_some, sym, ap, ◌∙◌, subst, inl, inr, ⊎_elim, arith}
use Rattle.std.proofs.Common.{slice_get}
use Rattle.std.proofs.lemmas.Bool.{cases_lt}
use Rattle.std.proofs.lemmas.List.{get_or_default}
use Rattle.std.proofs.lemmas.List.Elements.{Contains-get_or}
use Rattle.std.proofs.lemmas.Option.{slice_get-get_or}
use Rattle.std.specs.BTreeMap.{BTreeMap, get}
use Rattle.std.specs.Ordering.{nat_cmp}
use Rattle.iiif_ring.specs.Code.{name_at, IsNext, IsTable}
use Rattle.iiif_ring.specs.Owner.{point, replicas, hash, distance, distance_from, ComesFirst, IsOwner, IsUpTo, HaveSameNames}
use Rattle.iiif_ring.proofs.Least.{HasLeast, has_least}
use Rattle.iiif_ring.proofs.Names.{IsUpTo-antisym, IsUpTo-refl}
use Rattle.iiif_ring.proofs.Next.{distance_ahead, distance_behind}
use Rattle.iiif_ring.proofs.Table.{found, replica_at, same_found}

-- places that are as far behind one place are one place
same_place : (a b from : ℕ) → a < 2 ^ 64 → b < 2 ^ 64 → from < 2 ^ 64 → distance a from ≡ distance b from → a ≡ b
same_place a b from ha hb hf e = ⊎_elim
    (λ x. ⊎_elim
    (λ y. omega (arith, distance_behind a from x hf, distance_behind b from y hf, e))
    (λ y. omega (arith, distance_behind a from x hf, distance_ahead b from y hb, e))
    (cases_lt b from))
    (λ x. ⊎_elim
    (λ y. omega (arith, distance_ahead a from x ha, distance_behind b from y hf, e))
    (λ y. omega (arith, distance_ahead a from x ha, distance_ahead b from y hb, e))
    (cases_lt b from))
    (cases_lt a from)

pub owner_at : (names : List (List ℕ)) (points : BTreeMap ℕ ℕ) (key : List ℕ) (place : ℕ) → IsTable names points → hash key < 2 ^ 64 →
    IsNext points (hash key) place
    → IsOwner names key (name_at names place)
owner_at names points key place table small next =
    let from = hash key in
    let name = name_at names place in
    let entry = table.each next.here place next.found in
    let own = replica_at name replicas next.here entry.2 in
    record {
      named = Contains-get_or names place [] entry.1;
      replica = own.0;
      numbered = own.1;
      first = λ other r there numbered.
          let at : name_at names there.0 ≡ other = get_or_default names there.0 [] other there.1 ∙ there.2 in
          let x = point other r in
          let has = table.all there.0 r there.1 numbered in
          let met = found (get nat_cmp points (point (name_at names there.0) r)) has.0 in
          let is : get nat_cmp points x ≡ Some met.0 = ap (λ t. get nat_cmp points (point t r)) (sym at) ∙ met.1 in
          let within : x < 2 ^ 64 = (table.each x met.0 is).0 in
          let least : distance next.here from ≤ distance x from = next.least x within (ap (λ t. is_some t) is) in
          let here : distance (point name own.0) from ≡ distance next.here from = ap (λ p. distance p from) own.2 in
          ⊎_elim
          (λ nearer. inl (omega (arith, nearer, here)))
          (λ as_near.
          let level : distance next.here from ≡ distance x from = omega (arith, least, as_near) in
          let one : next.here ≡ x = same_place next.here x from entry.0 within small level in
          let taker : met.0 ≡ place = same_found (get nat_cmp points x) met.0 place is (ap (get nat_cmp points) (sym one) ∙ next.found) in
          let up : IsUpTo (name_at names met.0) other = subst (λ t. IsUpTo (name_at names met.0) t) at (has.1 met.0 met.1) in
          inr (here ∙ level, subst (λ p. IsUpTo (name_at names p) other) taker up))
          (cases_lt (distance next.here from) (distance x from));
    }

-- two owners of one key, of the same names in whatever order, are one name
pub IsOwner-unique : (names others : List (List ℕ)) (key a b : List ℕ) → HaveSameNames names others → IsOwner names key a →
    IsOwner others key b → a ≡ b
IsOwner-unique names others key a b same one other =
    let forth = one.first b other.replica ((same b).1 other.named) other.numbered in
    let back = other.first a one.replica ((same a).0 one.named) one.numbered in
    ⊎_elim
    (λ x. ⊎_elim (λ y. absurd (omega (arith, x, y))) (λ y. absurd (omega (arith, x, y.0))) back)
    (λ x. ⊎_elim (λ y. absurd (omega (arith, x.0, y))) (λ y. IsUpTo-antisym a b x.1 y.1) back)
    forth

-- a table of names with nothing in it has no names
pub not_empty : (names : List (List ℕ)) (points : BTreeMap ℕ ℕ) → IsTable names points → 0 < length names →
    ((here : ℕ) → here < 2 ^ 64 → get nat_cmp points here ≡ None) → ⊥
not_empty names points table some none =
    let here = point (name_at names 0) 0 in
    let has = table.all 0 0 some (omega arith) in
    let met = found (get nat_cmp points here) has.0 in
    let is : Some met.0 ≡ None = sym met.1 ∙ none here (table.each here met.0 met.1).0 in cc

-- the place where the owner stands, and no other owner is
pub owner_stands : (names : List (List ℕ)) (points : BTreeMap ℕ ℕ) (key : List ℕ) (from place : ℕ) → IsTable names points →
    from ≡ hash key → from < 2 ^ 64 → IsNext points from place
    → IsOwner names key (name_at names place) × (slice_get names place ≡ Some (name_at names place))
owner_stands names points key from place table is small next =
    let at : IsNext points (hash key) place = subst (λ f. IsNext points f place) is next in
    let below : hash key < 2 ^ 64 = omega (arith, is, small) in
    (owner_at names points key place table below at, slice_get-get_or names place [] (table.each next.here place next.found).1)

-- of two replicas of one name the nearer comes first, and of two that are as near either does
nearest_first : (key name other : List ℕ) (replica replica' : ℕ) → name ≡ other →
    distance_from key name replica ≤ distance_from key name replica' → ComesFirst key name replica other replica'
nearest_first key name other replica replica' same near =
    let P : List ℕ → Type 0 = λ t. ComesFirst key name replica t replica' in
    subst P same (⊎_elim
    (λ nearer. inl nearer)
    (λ as_near. inr (omega (arith, near, as_near), IsUpTo-refl name))
    (cases_lt (distance_from key name replica) (distance_from key name replica')))

-- a name that is alone is the owner: one of its replicas is the nearest
alone_at : (names : List (List ℕ)) (key : List ℕ) → length names ≡ 1 → HasLeast (distance_from key (name_at names 0)) replicas →
    IsOwner names key (name_at names 0)
alone_at names key alone nearest = record {
  named = Contains-get_or names 0 [] (omega arith);
  replica = nearest.at;
  numbered = nearest.within;
  first = λ other r there numbered.
      let here : there.0 ≡ 0 = omega (arith, there.1) in
      let at : name_at names there.0 ≡ other = get_or_default names there.0 [] other there.1 ∙ there.2 in
      let same : name_at names 0 ≡ other = ap (name_at names) (sym here) ∙ at in
      nearest_first key (name_at names 0) other nearest.at r same (nearest.least r numbered);
}

-- where one name stands alone, the owner stands at the first place
pub alone_stands : (names : List (List ℕ)) (key : List ℕ) → length names ≡ 1 → IsOwner names key (name_at names 0) ×
    (slice_get names 0 ≡ Some (name_at names 0))
alone_stands names key alone = (
  alone_at names key alone (has_least (distance_from key (name_at names 0)) replicas (omega arith)),
  slice_get-get_or names 0 [] (omega arith),
)
