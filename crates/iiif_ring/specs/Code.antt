-- What the table of points keeps: words of the code alone.
use Rattle.std.specs.Prelude.{◌≡◌, ℕ, zero, suc, ◌<◌, ◌≤◌, ◌^◌, ◌==◌, ◌||◌, Bool, true, false, List, [], length, slice_index_or, Some}
use Rattle.std.specs.Prelude.{IsSome}
use Rattle.std.specs.BTreeMap.{BTreeMap, get}
use Rattle.std.specs.Ordering.{nat_cmp}
use Rattle.iiif_ring.specs.Owner.{point, replicas, distance, IsUpTo}

-- the name at a place
abbrev pub name_at : List (List ℕ) → ℕ → List ℕ
name_at names place = slice_index_or names place []

-- whether one of the first replicas of a name has its point here
unfoldable pub has_point : List ℕ → ℕ → ℕ → Bool
has_point name zero here = false
has_point name (suc n) here = (point name n == here) || has_point name n here

-- each entry of the table is a point of the name at its place
abbrev pub EachIsPoint : List (List ℕ) → BTreeMap ℕ ℕ → Type 0
EachIsPoint names points = (here place : ℕ) → get nat_cmp points here ≡ Some place
    → (here < 2 ^ 64) × (place < length names) × (has_point (name_at names place) replicas here ≡ true)

-- the table has a replica's point, and of names that share the point no larger one
abbrev pub HasReplica : List (List ℕ) → BTreeMap ℕ ℕ → ℕ → ℕ → Type 0
HasReplica names points place replica = IsSome (get nat_cmp points (point (name_at names place) replica))
    × ((other : ℕ) → get nat_cmp points (point (name_at names place) replica) ≡ Some other →
    IsUpTo (name_at names other) (name_at names place))

-- the table of the points of all names
pub record IsTable (names : List (List ℕ)) (points : BTreeMap ℕ ℕ) : Type 0 where
  pub each : EachIsPoint names points
  pub all : (place replica : ℕ) → place < length names → replica < replicas → HasReplica names points place replica

-- each place of the table lies on the ring
abbrev pub EachFits : BTreeMap ℕ ℕ → Type 0
EachFits points = (here place : ℕ) → get nat_cmp points here ≡ Some place → here < 2 ^ 64

-- what stands at the first point of the table from a place on, round the ring
pub record IsNext (points : BTreeMap ℕ ℕ) (from place : ℕ) : Type 0 where
  pub here : ℕ
  pub found : get nat_cmp points here ≡ Some place
  pub least : (other : ℕ) → other < 2 ^ 64 → IsSome (get nat_cmp points other) → distance here from ≤ distance other from
