-- Laws of lines and queues, which the functions of the module `laws` have as their contracts.
use Rattle.std.specs.Prelude.{◌≡◌, ℕ, ◌+◌, ◌^◌, ◌<◌, ◌==◌, List, [], ◌∷◌, ◌++◌, All, codes, length}
use Rattle.std.specs.List.{slice_split, sum_by}
use Rattle.iiif_log.specs.Escapes.{escaped}
use Rattle.iiif_log.specs.Lines.{IsLineOf, cause_word, words_of}
use Rattle.iiif_log.specs.Moments.{IsMomentText}
use Rattle.iiif_log.specs.Waiting.{QueuedLine, Waiting, line, left_behind, lines_in, put_behind, told_next}
use Rattle.iiif_log.specs.declared.answered.Answered.{Answered}
use Rattle.iiif_log.specs.declared.answered.Failure.TheVariants as failures
use Rattle.iiif_log.specs.declared.answered.Outcome.{Outcome}
use Rattle.iiif_log.specs.declared.answered.Outcome.TheVariants.{Whole, Failed, Cut}

-- bytes that differ have words that differ
abbrev pub EscapesDiffer : Type 0
EscapesDiffer = (a b : List ℕ) → All (λ x. x < 256) a → All (λ x. x < 256) b → escaped a ≡ escaped b → a ≡ b

-- the words behind the target of an answer that failed or was cut off
abbrev pub last_words : Outcome → List (List ℕ)
last_words (Whole status) = []
last_words (Failed failures.Source) = codes "L1" ∷ codes "source" ∷ []
last_words (Failed failures.Memory) = codes "L2" ∷ codes "memory" ∷ []
last_words (Cut cause) = codes "cut" ∷ cause_word cause ∷ []

-- the numbers of an answer are those of its type
pub record HasNumbers (a : Answered) : Type 0 where
  pub bytes : a.bytes < 2 ^ 64
  pub millis : a.millis < 2 ^ 64
  pub status : (s : ℕ) → a.outcome ≡ Whole s → s < 2 ^ 16

-- A line ends with its one line feed, and what stands before that are its words, with a space between two of them.
abbrev pub LinesAreLines : Type 0
LinesAreLines =
    (a : Answered) (text : List ℕ) → HasNumbers a → IsLineOf a text
    → (time front : List ℕ) × IsMomentText a.at.millis time × (text ≡ front ++ 10 ∷ []) × All (λ b. 31 < b) front
    × (slice_split (λ b. b == 32) front ≡ words_of time a ++ last_words a.outcome)

-- answers with one line have one method, one target, one end and the same numbers
abbrev pub LinesTellAnswers : Type 0
LinesTellAnswers =
    (a b : Answered) (text : List ℕ) → HasNumbers a → HasNumbers b
    → All (λ x. x < 256) a.method.now → All (λ x. x < 256) b.method.now → All (λ x. x < 256) a.target.now → All (λ x. x < 256) b.target.now
    → IsLineOf a text → IsLineOf b text
    → (a.method.now ≡ b.method.now) × (a.target.now ≡ b.target.now) × (a.outcome ≡ b.outcome) × (a.bytes ≡ b.bytes) × (a.millis ≡ b.millis)

-- Of the lines that were put, each is among those that are told, in order, or is counted where it was lost: before the next that is
-- told, or among those that are not told of yet.
pub data Keeps : List (List ℕ) → List QueuedLine → ℕ → Type 0 where
  none : Keeps [] [] 0
  kept : (puts : List (List ℕ)) (told : List QueuedLine) (lost : ℕ) (text : List ℕ) → 0 < length text → Keeps puts told lost
      → Keeps (puts ++ text ∷ []) (told ++ record { lost = lost; text = text } ∷ []) 0
  gone : (puts : List (List ℕ)) (told : List QueuedLine) (lost : ℕ) (text : List ℕ) → Keeps puts told lost →
      Keeps (puts ++ text ∷ []) told (lost + 1)
  said : (puts : List (List ℕ)) (told : List QueuedLine) (lost : ℕ) → Keeps puts told lost →
      Keeps puts (told ++ record { lost = lost; text = [] } ∷ []) 0

-- It stays so where a line is put, and where one is taken.
abbrev pub QueuesKeepLines : Type 0
QueuesKeepLines =
    ((puts : List (List ℕ)) (taken : List QueuedLine) (w : Waiting) (text : List ℕ) → 0 < length text → w.lost + 1 < 2 ^ 64
    → Keeps puts (taken ++ w.lines) w.lost → Keeps (puts ++ text ∷ []) (taken ++ (put_behind text w).lines) (put_behind text w).lost)
    × ((puts : List (List ℕ)) (taken : List QueuedLine) (w : Waiting) (l : QueuedLine) → told_next w ≡ line l
    → Keeps puts (taken ++ w.lines) w.lost → Keeps puts ((taken ++ l ∷ []) ++ (left_behind w).lines) (left_behind w).lost)

-- as many were put as are told, were lost before those, and are lost and not told of yet
abbrev pub CountsAddUp : Type 0
CountsAddUp = (puts : List (List ℕ)) (told : List QueuedLine) (lost : ℕ) → Keeps puts told lost → length puts ≡ sum_by lines_in told + lost
