-- Jobs of a queue that wait, and those that were admitted.
use Rattle.std.specs.Prelude.{◌≡◌, ℕ, ◌+◌, ◌-◌, ◌*◌, ◌^◌, ◌<◌, ◌≤◌, min, List, ◌∷◌, ◌++◌, [], length, slice_index_or}
use Rattle.std.specs.List.{remove}
use Rattle.iiif_group_items.specs.declared.queue_state.QueueState.{QueueState}
use Rattle.iiif_group_items.specs.declared.queue_state.Waiting.{Waiting}

-- no job
abbrev pub nobody : Waiting
nobody = record { number = 0; rank = 0 }

-- the job at this place of those that wait
abbrev pub at : List Waiting → ℕ → Waiting
at jobs place = slice_index_or jobs place nobody

-- at this place a job of this number waits
abbrev pub WaitsAt : List Waiting → ℕ → ℕ → Type 0
WaitsAt jobs place n = (place < length jobs) × ((at jobs place).number ≡ n)

-- none of this number waits
abbrev pub WaitsNot : List Waiting → ℕ → Type 0
WaitsNot jobs n = (place : ℕ) → place < length jobs → (at jobs place).number ≡ n → ⊥

-- at this place waits the one that is admitted next: none has a lower rank
abbrev pub IsNext : List Waiting → ℕ → Type 0
IsNext jobs place = (place < length jobs) × ((other : ℕ) → other < length jobs → (at jobs place).rank ≤ (at jobs other).rank)

-- fewer are at work than may be, and none waits
abbrev pub HasRoom : QueueState → Type 0
HasRoom q = (q.at_work < q.most) × (q.waiting.items ≡ [])

-- how many were enqueued and aren't released: those at work, and those that wait
abbrev pub there : QueueState → ℕ
there q = q.at_work + length q.waiting.items

-- one of this number waits no longer, and all others do
abbrev pub WaitsNoLonger : QueueState → QueueState → ℕ → Type 0
WaitsNoLonger old new n =
    (place : ℕ) × WaitsAt old.waiting.items place n × (new.waiting.items ≡ remove old.waiting.items place)

-- it is the one that was next
abbrev pub IsAdmitted : QueueState → QueueState → ℕ → Type 0
IsAdmitted old new n =
    (place : ℕ) × WaitsAt old.waiting.items place n × IsNext old.waiting.items place
    × (new.waiting.items ≡ remove old.waiting.items place)

-- The rank of a job of so much work by its number: the least work first, but for 4,194,304 pixels of work for each job that came between.
abbrev pub rank_of : ℕ → ℕ → ℕ
rank_of work n = min (work + n * 4194304) (2 ^ 64 - 1)

-- one of this number waits too, behind the others, with this rank
abbrev pub WaitsToo : QueueState → QueueState → ℕ → ℕ → Type 0
WaitsToo old new n rank = new.waiting.items ≡ old.waiting.items ++ record { number = n; rank = rank } ∷ []
