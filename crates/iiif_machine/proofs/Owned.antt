-- The owner on a ring.
use Rattle.std.proofs.Common.{◌≡◌, ℕ, List, [], ◌∷◌, Some, arith}
use Rattle.std.specs.Prelude.{slice_get, IsSomeAnd}
use Rattle.iiif_ring.specs.Owner.{HaveSameNames, IsOwner}
use Rattle.iiif_machine.specs.Owners.{owner}
use Rattle.iiif_machine.proofs.RingOwners.{owner_is_the_rings}

pub owner_place : (ring : List (List ℕ)) (key : List ℕ) (i : ℕ) → IsSomeAnd (slice_get ring i) (IsOwner ring key) →
    ((names : List (List ℕ)) (name : List ℕ) → HaveSameNames names ring → IsOwner names key name → slice_get ring i ≡ Some name) →
    slice_get ring i ≡ Some (owner ring key)
owner_place [] key i some only = absurd some
owner_place (x ∷ xs) key i some only = only (x ∷ xs) (owner (x ∷ xs) key) (λ name. ((λ h. h), (λ h. h)))
    (owner_is_the_rings (x ∷ xs) key (omega arith))
