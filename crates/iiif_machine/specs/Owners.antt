-- Which node owns a key: consistent hashing, as a function.
use Rattle.std.specs.Prelude.{ℕ, suc, ◌-◌, List, [], ◌∷◌, Bool, ◌&&◌, ◌||◌, ◌==◌, nat_lt, min, fold, if◌then◌else◌}
use Prim.Native.Nat.{zero}
use Rattle.std.specs.Ordering.{is_gt, nat_cmp}
use Rattle.std.specs.Cmp.Lexicographic.{slice_cmp}
use Rattle.iiif_ring.specs.Owner.{replicas, distance_from}

-- the least that f is at the numbers 0 to n
abbrev pub least : (ℕ → ℕ) → ℕ → ℕ
least f zero = f 0
least f (suc n) = min (least f n) (f (suc n))

-- how far the nearest point of a name is behind a key
unfoldable pub nearest : List ℕ → List ℕ → ℕ
nearest key name = least (distance_from key name) (replicas - 1)

-- one name comes before another behind the key: its nearest point is nearer, or as near and the name smaller by bytes
abbrev pub is_before : List ℕ → List ℕ → List ℕ → Bool
is_before key name other =
    nat_lt (nearest key name) (nearest key other)
    || ((nearest key name == nearest key other) && is_gt (slice_cmp nat_cmp other name))

-- of two names, the one that comes first
abbrev pub first_of : List ℕ → List ℕ → List ℕ → List ℕ
first_of key name other = if is_before key other name then other else name

-- the name of the key's owner, among the names of a ring
unfoldable pub owner : List (List ℕ) → List ℕ → List ℕ
owner [] key = []
owner (name ∷ names) key = fold (first_of key) name names
