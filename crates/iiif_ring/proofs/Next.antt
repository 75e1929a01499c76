-- The first point of the table from a place on.
use Rattle.std.proofs.Common.{◌≡◌, ℕ, ◌+◌, ◌<◌, ◌≤◌, ◌^◌, List, [], ◌∷◌, true, false, Option, Some, None, is_some, ap, subst, ⊎_elim, arith}
use Rattle.std.proofs.lemmas.Bool.{cases_lt}
use Rattle.std.proofs.lemmas.Bool.Decides.{nat_tests}
use Rattle.std.specs.declared.ops.Bound.TheVariants.{Included, Unbounded}
use Rattle.std.specs.BTreeMap.{BTreeMap, get, IsLowerBound}
use Rattle.std.specs.BTreeMap.Range.{IsRangeOf}
use Rattle.std.specs.Ordering.{nat_cmp, is_gt}
use Rattle.std.proofs.lemmas.Map.Keys.{le_from_not_gt}
use Rattle.iiif_ring.specs.Code.{EachFits, IsNext}
use Rattle.iiif_ring.specs.Owner.{distance}

-- from a place on, the distance is the difference
pub distance_ahead : (place from : ℕ) → from ≤ place → place < 2 ^ 64 → distance place from + from ≡ place
unfolding distance
distance_ahead place from h k = omega arith

-- before it, the way leads once round the ring
pub distance_behind : (place from : ℕ) → place < from → from < 2 ^ 64 → distance place from + from ≡ place + 2 ^ 64
unfolding distance
distance_behind place from h k = omega arith

not_gt : (a b : ℕ) → a ≤ b → is_gt (nat_cmp a b) ≡ false
not_gt a b h = grind (arith, nat_tests)

not_there : (o : Option ℕ) → is_some o ≡ true → o ≡ None → ⊥
not_there None h e = cc
not_there (Some x) h e = cc

module _ (points : BTreeMap ℕ ℕ) (from here place : ℕ) (fits : EachFits points) (small : from < 2 ^ 64) where
  -- the first entry of those from a place on
  pub next_ahead : (es rest : List (ℕ × ℕ)) → IsRangeOf nat_cmp (Included from) Unbounded points es → es ≡ (here, place) ∷ rest →
      IsNext points from place
  next_ahead es rest range is =
      let P : List (ℕ × ℕ) → Type 0 = λ xs. IsRangeOf nat_cmp (Included from) Unbounded points xs in
      let r = subst P is range in
      let ahead : from ≤ here = le_from_not_gt from here r.1.0.0 in
      let below : here < 2 ^ 64 = fits here place r.1.1 in
      record {
        here = here;
        found = r.1.1;
        least = λ other within there. ⊎_elim
            (λ before. omega (arith, distance_ahead here from ahead below, distance_behind other from before small))
            (λ behind. let least : here ≤ other = le_from_not_gt here other (r.2 other (not_gt from other behind, tt) there) in
            omega (arith, distance_ahead here from ahead below, distance_ahead other from behind within))
            (cases_lt other from);
      }

  -- the first entry of all, where none stands from the place on
  pub next_round : (es : List (ℕ × ℕ)) → IsRangeOf nat_cmp (Included from) Unbounded points es → es ≡ [] →
      get nat_cmp points here ≡ Some place → IsLowerBound nat_cmp points here
      → IsNext points from place
  next_round es range none is lower =
      let before : (other : ℕ) → is_some (get nat_cmp points other) ≡ true → other < from = λ other there. ⊎_elim (λ h. h)
      (λ behind. absurd (not_there (get nat_cmp points other) there (range.5 none other (not_gt from other behind, tt))))
      (cases_lt other from) in
      let own : here < from = before here (ap is_some is) in
      record {
        here = here;
        found = is;
        least = λ other within there. let least : here ≤ other = le_from_not_gt here other (lower other there) in
            omega (arith, distance_behind here from own small, distance_behind other from (before other there) small);
      }
