-- What a point put into the table keeps.
use Rattle.std.proofs.Common.{◌≡◌, ◌≢◌, ℕ, zero, suc, ◌+◌, ◌<◌, ◌≤◌, ◌^◌, ◌==◌, List, [], length, true, false, Option, Some, None, IfSome}
use Rattle.std.proofs.Common.{IsSomeAnd, is_some, refl, sym, ap, ◌∙◌, subst, ⊎_elim, arith, below_more}
use Rattle.std.proofs.lemmas.Bool.{cases_eq, or_left, or_right, or_cases, eq-eqb, eqb-true}
use Rattle.std.proofs.lemmas.Bool.Decides.{nat_tests}
use Rattle.std.specs.BTreeMap.{BTreeMap, get, is_at, Updates}
use Rattle.std.specs.Map.{lookup}
use Rattle.std.specs.Ordering.{nat_cmp, is_eq}
use Rattle.iiif_ring.specs.Code.{name_at, has_point, EachIsPoint, HasReplica, IsTable}
use Rattle.iiif_ring.specs.Owner.{point, replicas, IsUpTo}
use Rattle.iiif_ring.proofs.Names.{IsUpTo-refl, IsUpTo-trans}

some_and : (o : Option ℕ) (P : ℕ → Type 0) → IsSomeAnd o P → (a : ℕ) × (o ≡ Some a) × P a
some_and None P h = absurd h
some_and (Some a) P h = (a, refl, h)

-- a replica of the first ones has its point
pub has_point-point : (name : List ℕ) (n replica : ℕ) → replica < n → has_point name n (point name replica) ≡ true
unfolding has_point
has_point-point name zero replica h = absurd (omega arith)
has_point-point name (suc n) replica h = ⊎_elim
    (λ same. or_left (point name n == point name replica) (has_point name n (point name replica)) (eq-eqb _ _ (ap (point name) (sym same))))
    (λ apart. or_right (point name n == point name replica) (has_point name n (point name replica))
    (has_point-point name n replica (omega (arith, apart))))
    (cases_eq replica n)

-- what has a point is a replica's point
pub replica_at : (name : List ℕ) (n here : ℕ) → has_point name n here ≡ true → (replica : ℕ) × (replica < n) × (point name replica ≡ here)
unfolding has_point
replica_at name zero here h = cc
replica_at name (suc n) here h = ⊎_elim
    (λ now. (n, omega arith, eqb-true _ _ now))
    (λ later. let r = replica_at name n here later in (r.0, omega (arith, r.1), r.2))
    (or_cases (point name n == here) (has_point name n here) h)

apart_test : (a b : ℕ) → a ≢ b → is_eq (nat_cmp a b) ≡ false
apart_test a b h = grind (arith, nat_tests)

-- two look-ups of one place find one thing
pub same_found : (o : Option ℕ) (a b : ℕ) → o ≡ Some a → o ≡ Some b → a ≡ b
same_found o a b p q = cc

pub found : (o : Option ℕ) → is_some o ≡ true → (a : ℕ) × (o ≡ Some a)
found None h = cc
found (Some a) h = (a, refl)

if_found : (o : Option ℕ) (P : ℕ → Type 0) (a : ℕ) → o ≡ Some a → IfSome o P → P a
if_found o P a e h = let Q : Option ℕ → Type 0 = λ x. IfSome x P in subst Q e h

module _ (names : List (List ℕ)) (m n : BTreeMap ℕ ℕ) (here place : ℕ) (u : Updates nat_cmp m n here (Some place)) where
  pub each-put : EachIsPoint names m → here < 2 ^ 64 → place < length names → has_point (name_at names place) replicas here ≡ true →
      EachIsPoint names n
  each-put each fits within is_point q p e = ⊎_elim
      (λ same. let at : p ≡ place = same_found _ p place e (ap (get nat_cmp n) (sym same) ∙ u.1) in
      let P : ℕ → ℕ → Type 0 = λ x y. (x < 2 ^ 64) × (y < length names) × (has_point (name_at names y) replicas x ≡ true) in
      subst (λ y. P q y) (sym at) (subst (λ x. P x place) same (fits, within, is_point)))
      (λ apart. each q p (sym (u.2 q (apart_test here q apart)) ∙ e))
      (cases_eq here q)

  pub replica-put : (p r : ℕ) → HasReplica names m p r →
      IfSome (get nat_cmp m here) (λ other. IsUpTo (name_at names place) (name_at names other)) → HasReplica names n p r
  replica-put p r has free = let x = point (name_at names p) r in ⊎_elim
      (λ same. let now : get nat_cmp n x ≡ Some place = ap (get nat_cmp n) (sym same) ∙ u.1 in
      let before = found (get nat_cmp m x) has.0 in
      let least : IsUpTo (name_at names place) (name_at names before.0) =
      if_found (get nat_cmp m here) _ before.0 (ap (get nat_cmp m) same ∙ before.1) free in (
        ap is_some now,
        λ other e. subst (λ y. IsUpTo (name_at names y) (name_at names p)) (same_found _ place other now e)
            (IsUpTo-trans _ (name_at names before.0) _ least (has.1 before.0 before.1)),
      ))
      (λ apart. let now : get nat_cmp n x ≡ get nat_cmp m x = u.2 x (apart_test here x apart) in
      (ap is_some now ∙ has.0, λ other e. has.1 other (sym now ∙ e)))
      (cases_eq here x)

  pub own_replica-put : (r : ℕ) → here ≡ point (name_at names place) r → HasReplica names n place r
  own_replica-put r same = let now : get nat_cmp n (point (name_at names place) r) ≡ Some place = ap (get nat_cmp n) (sym same) ∙ u.1 in (
    ap is_some now,
    λ other e. subst (λ y. IsUpTo (name_at names y) (name_at names place)) (same_found _ place other now e)
        (IsUpTo-refl (name_at names place)),
  )

-- a point that a name no larger has taken is there
pub replica-taken : (names : List (List ℕ)) (m : BTreeMap ℕ ℕ) (here place r : ℕ) → here ≡ point (name_at names place) r
    → (other : ℕ) → get nat_cmp m here ≡ Some other → IsUpTo (name_at names other) (name_at names place) → HasReplica names m place r
replica-taken names m here place r same other is least = let now : get nat_cmp m (point (name_at names place) r) ≡ Some other =
    ap (get nat_cmp m) (sym same) ∙ is in
    (ap is_some now, λ y e. subst (λ z. IsUpTo (name_at names z) (name_at names place)) (same_found _ other y now e) least)

-- the table has the points of the first names, and the first points of the next one
pub record HoldsUpTo (names : List (List ℕ)) (points : BTreeMap ℕ ℕ) (count done : ℕ) : Type 0 where
  pub each : EachIsPoint names points
  pub earlier : (place replica : ℕ) → place < count → replica < replicas → HasReplica names points place replica
  pub now : (replica : ℕ) → replica < done → HasReplica names points count replica

nothing_found : (points : BTreeMap ℕ ℕ) (here place : ℕ) → points.entries ≡ [] → get nat_cmp points here ≡ Some place → ⊥
nothing_found points here place none e = let L : List (ℕ × ℕ) → Option ℕ = λ es. lookup (is_at (nat_cmp here)) es in
    let nothing : get nat_cmp points here ≡ None = ap L none in cc

pub holds_none : (names : List (List ℕ)) (points : BTreeMap ℕ ℕ) → points.entries ≡ [] → HoldsUpTo names points 0 0
holds_none names points none = record {
  each = λ here place e. absurd (nothing_found points here place none e);
  earlier = λ place replica h. absurd (omega (arith, h));
  now = λ replica h. absurd (omega (arith, h));
}

pub holds_next : (names : List (List ℕ)) (points : BTreeMap ℕ ℕ) (count done : ℕ) → HoldsUpTo names points count done → replicas ≤ done →
    HoldsUpTo names points (count + 1) 0
holds_next names points count done h end = record {
  each = h.each;
  earlier = λ place replica before is. ⊎_elim
      (λ same. subst (λ p. HasReplica names points p replica) (sym same) (h.now replica (omega arith)))
      (λ apart. h.earlier place replica (omega (arith, apart)) is)
      (cases_eq place count);
  now = λ replica below. absurd (omega (arith, below));
}

pub holds_all : (names : List (List ℕ)) (points : BTreeMap ℕ ℕ) (count done : ℕ) → HoldsUpTo names points count done →
    length names ≤ count → IsTable names points
holds_all names points count done h end = record {
  each = h.each;
  all = λ place replica within is. h.earlier place replica (omega arith) is;
}

pub holds_taken : (names : List (List ℕ)) (m : BTreeMap ℕ ℕ) (here count done : ℕ) → HoldsUpTo names m count done →
    here ≡ point (name_at names count) done
    → IsSomeAnd (get nat_cmp m here) (λ other. IsUpTo (name_at names other) (name_at names count)) → HoldsUpTo names m count (done + 1)
holds_taken names m here count done h same least = let other = some_and (get nat_cmp m here) _ least in record {
  each = h.each;
  earlier = h.earlier;
  now = below_more _ _ h.now (replica-taken names m here count done same other.0 other.1 other.2);
}

pub holds_put : (names : List (List ℕ)) (m n : BTreeMap ℕ ℕ) (here count done : ℕ) → HoldsUpTo names m count done →
    here ≡ point (name_at names count) done
    → Updates nat_cmp m n here (Some count) → here < 2 ^ 64 → count < length names → done < replicas
    → IfSome (get nat_cmp m here) (λ other. IsUpTo (name_at names count) (name_at names other)) → HoldsUpTo names n count (done + 1)
holds_put names m n here count done h same u fits within numbered free = record {
  each = each-put names m n here count u h.each fits within
      (ap (has_point (name_at names count) replicas) same ∙ has_point-point (name_at names count) replicas done numbered);
  earlier = λ place replica before is. replica-put names m n here count u place replica (h.earlier place replica before is) free;
  now = below_more _ _ (λ replica below. replica-put names m n here count u count replica (h.now replica below) free)
      (own_replica-put names m n here count u done same);
}
