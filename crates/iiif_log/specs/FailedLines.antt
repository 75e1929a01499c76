-- The line of a read of a file that failed.
use Rattle.std.specs.Prelude.{◌≡◌, ℕ, List, [], ◌∷◌, ◌++◌, codes, decimal}
use Rattle.std.specs.List.{join_with_byte}
use Rattle.iiif_log.specs.Escapes.{escaped}
use Rattle.iiif_log.specs.Moments.{IsMomentText}
use Rattle.iiif_log.specs.declared.failed_read.FailedRead.{FailedRead}

-- The words of a line at this time: when, what it tells of, the file's path, the offset in it, why.
abbrev pub failed_words : List ℕ → FailedRead → List (List ℕ)
failed_words time r = time ∷ codes "read-failed" ∷ escaped r.path.now ∷ decimal r.place ∷ escaped r.reason.now ∷ []

-- the words with a space between two of them, and a line feed
abbrev pub IsFailedLineOf : FailedRead → List ℕ → Type 0
IsFailedLineOf r text = (time : List ℕ) × IsMomentText r.at.millis time × (text ≡ join_with_byte 32 (failed_words time r) ++ 10 ∷ [])
