-- What is kept of the sums of a band's blocks.
use Rattle.std.specs.Prelude.{◌≡◌, ℕ, ◌-◌, ◌^◌, ◌<◌, ◌≤◌, ◌⊎◌, min, List, [], ◌∷◌, ◌++◌, All, Contains, OnErr, OnOk, Result, length}
use Rattle.std.specs.List.{sum_by}
use Rattle.std.specs.Arc.{arc_value}
use Rattle.iiif_keys.specs.declared.fault.Fault.{Fault}
use Rattle.iiif_keys.specs.declared.keys.SumKey.{SumKey}
use Rattle.iiif_keys.specs.declared.values.SumVal.{SumVal}
use Rattle.iiif_planner.specs.declared.plans.Plan.{Plan}
use Rattle.iiif_planner.specs.declared.plans.Plan.TheVariants.{Copy, Grow, Sum}
use Rattle.iiif_assemble.specs.Gathering.{AreValues, HasItem}
use Rattle.iiif_assemble.specs.declared.kept.KeptSum.{KeptSum}

-- each value that is kept may be answered for its key
abbrev pub AreKept : (SumKey → SumVal → Type 0) → List KeptSum → Type 0
AreKept means kept = All (λ s. means s.key (arc_value s.value)) kept

-- how many sums a value has that is kept
abbrev pub sums_at : KeptSum → ℕ
sums_at s = length (arc_value s.value).sums.sums

-- how many sums are kept, as far as 64 bits count
abbrev pub kept_len : List KeptSum → ℕ
kept_len kept = min (sum_by (λ s. sums_at s) kept) (2 ^ 64 - 1)

-- a key's value is kept too
abbrev pub IsKeptToo : SumKey → SumVal → List KeptSum → List KeptSum → Type 0
IsKeptToo k v old new = (s : KeptSum) × (s.key ≡ k) × (arc_value s.value ≡ v) × (new ≡ old ++ s ∷ [])

-- the most sums that are kept for a band
abbrev pub most_kept : ℕ
most_kept = 64

-- no more are kept
abbrev pub AreFew : List KeptSum → Type 0
AreFew kept = length kept ≤ most_kept

-- a key is that of one of these items
abbrev pub IsOfItems : List SumKey → List ℕ → SumKey → Type 0
IsOfItems keys items key = (i : ℕ) × Contains items i × HasItem keys (λ k. k ≡ key) i

-- each sum that is kept is of one of these items
abbrev pub AreOfItems : List SumKey → List ℕ → List KeptSum → Type 0
AreOfItems keys items kept = All (λ s. IsOfItems keys items s.key) kept

-- one sum is kept for each of these items, in their order, and no other
abbrev pub AreOneEach : List SumKey → List ℕ → List KeptSum → Type 0
AreOneEach keys items kept = AreValues (λ k s. k ≡ s.key) keys items kept

-- a sum is kept for a key
abbrev pub HasKept : List KeptSum → SumKey → Type 0
HasKept kept key = (s : KeptSum) × Contains kept s × (s.key ≡ key)

-- a sum is kept for each of these items
abbrev pub HasAll : List SumKey → List ℕ → List KeptSum → Type 0
HasAll keys items kept = All (HasItem keys (HasKept kept)) items

-- What is kept for a band, where others were before: the same ones, of a plan of tiles, and where one was kept for each of the band's
-- blocks; else one for each of these, and no other; of more than 64 blocks, some that were kept before, each of one of these.
abbrev pub KeepsOwn : Plan → List ℕ → List KeptSum → List KeptSum → Type 0
KeepsOwn (Copy keys) items old new = new ≡ old
KeepsOwn (Grow keys) items old new = new ≡ old
KeepsOwn (Sum keys) items old new =
    ((new ≡ old) × HasAll keys.items items old)
    ⊎ (((length items ≤ most_kept) × AreOneEach keys.items items new)
    ⊎ ((most_kept < length items) × AreOfItems keys.items items new × (length new ≤ length old)))

-- At most 64 sums are kept, where no more were before; those for the band, and none after a fault.
pub record KeepsFew (plan : Plan) (items : List ℕ) (old new : List KeptSum) (result : Result Unit Fault) : Type 0 where
  pub few : AreFew old → AreFew new
  pub own : OnOk result (KeepsOwn plan items old new)
  pub none : OnErr result (new ≡ [])
