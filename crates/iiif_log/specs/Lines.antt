-- The line of an answer.
use Rattle.std.specs.Prelude.{◌≡◌, ◌==◌, ℕ, List, [], ◌∷◌, ◌++◌, codes, decimal, if◌then◌else◌}
use Rattle.std.specs.List.{join_with_byte}
use Rattle.iiif_log.specs.Escapes.{escaped}
use Rattle.iiif_log.specs.Moments.{IsMomentText}
use Rattle.iiif_log.specs.declared.answered.Answered.{Answered}
use Rattle.iiif_log.specs.declared.answered.CutCause.{CutCause}
use Rattle.iiif_log.specs.declared.answered.CutCause.TheVariants.{Viewer, Slow, Rate, Source, Memory, Ousted}
use Rattle.iiif_log.specs.declared.answered.Failure.{Failure}
use Rattle.iiif_log.specs.declared.answered.Failure.TheVariants as failures
use Rattle.iiif_log.specs.declared.answered.Outcome.{Outcome}
use Rattle.iiif_log.specs.declared.answered.Outcome.TheVariants.{Whole, Failed, Cut}

-- the status, or that there is none to tell
abbrev pub outcome_word : Outcome → List ℕ
outcome_word (Whole status) = decimal status
outcome_word (Failed failure) = codes "500"
outcome_word (Cut cause) = codes "-"

-- the word for a cause
abbrev pub cause_word : CutCause → List ℕ
cause_word Viewer = codes "viewer"
cause_word Slow = codes "slow"
cause_word Rate = codes "rate"
cause_word Source = codes "source"
cause_word Memory = codes "memory"
cause_word Ousted = codes "ousted"

-- the words for the cause of a 500
abbrev pub failure_words : Failure → List ℕ
failure_words failures.Source = codes "L1 source"
failure_words failures.Memory = codes "L2 memory"

-- what stands behind the target of an answer that failed or was cut off: why
abbrev pub cut_word : Outcome → List ℕ
cut_word (Whole status) = []
cut_word (Failed failure) = codes " " ++ failure_words failure
cut_word (Cut cause) = codes " cut " ++ cause_word cause

-- The words of a line at this time: when, the method, the status, the bytes, the milliseconds, the target.
abbrev pub words_of : List ℕ → Answered → List (List ℕ)
words_of time a =
    time ∷ escaped a.method.now ∷ outcome_word a.outcome ∷ decimal a.bytes ∷ decimal a.millis ∷ escaped a.target.now ∷ []

-- the words with a space between two of them, and a line feed
abbrev pub IsLineOf : Answered → List ℕ → Type 0
IsLineOf a text = (time : List ℕ) × IsMomentText a.at.millis time
    × (text ≡ join_with_byte 32 (words_of time a) ++ cut_word a.outcome ++ 10 ∷ [])

-- the line that tells how many were lost
abbrev pub lost_line : ℕ → List ℕ
lost_line count = codes "lost " ++ decimal count ++ 10 ∷ []

-- what is written where so many were lost
abbrev pub lost_text : ℕ → List ℕ
lost_text count = if count == 0 then [] else lost_line count
