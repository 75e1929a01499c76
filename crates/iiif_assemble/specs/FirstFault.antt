-- What the first fault of a list of items says, where it is fixed which keys can't be had.
use Rattle.std.specs.Prelude.{◌≡◌, ◌≢◌, ℕ, Bool, true, false, List, ◌∷◌, ◌++◌, All}
use Rattle.iiif_keys.specs.declared.fault.Fault.{Fault}
use Rattle.iiif_keys.specs.declared.fault.Fault.TheVariants.{NoMemory}
use Rattle.iiif_assemble.specs.Gathering.{FailedFirst, HasItem}

-- The fault is that of the first of the items whose keys can't be had.
pub record IsOfFirstBad {K : Type 0} (bad : K → Bool) (failed : K → Fault → Type 0) (keys : List K) (items : List ℕ)
    (fault : Fault) : Type 0 where
  pub before : List ℕ
  pub item : ℕ
  pub after : List ℕ
  pub are : items ≡ before ++ item ∷ after
  pub good : All (HasItem keys (λ k. bad k ≡ false)) before
  pub fault_of : HasItem keys (λ k. (bad k ≡ true) × failed k fault) item

-- Where it is fixed which keys can't be had, the fault of the first failed item, if it isn't lack of memory, is that of the first of these.
abbrev pub FirstBadIsTold : {K V : Type 0} → (K → V → Type 0) → (K → Fault → Type 0) → Type 0
FirstBadIsTold {K} {V} means failed =
    (bad : K → Bool) → ((k : K) (v : V) → means k v → bad k ≡ false) → ((k : K) (f : Fault) → f ≢ NoMemory → failed k f → bad k ≡ true) →
    (keys : List K) (items : List ℕ) (fault : Fault) → fault ≢ NoMemory → FailedFirst means failed keys items fault →
    IsOfFirstBad bad failed keys items fault
