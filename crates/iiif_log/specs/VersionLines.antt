-- The line of another node that asks for another version of a file.
use Rattle.std.specs.Prelude.{◌≡◌, ℕ, List, [], ◌∷◌, ◌++◌, codes}
use Rattle.std.specs.List.{join_with_byte}
use Rattle.iiif_log.specs.Escapes.{escaped}
use Rattle.iiif_log.specs.Moments.{IsMomentText}
use Rattle.iiif_log.specs.declared.other_version.OtherVersion.{OtherVersion}

-- The words of a line at this time: when, what it tells of, the address of the node, the image's name.
abbrev pub version_words : List ℕ → OtherVersion → List (List ℕ)
version_words time o = time ∷ codes "other-version" ∷ escaped o.address.now ∷ escaped o.image.now ∷ []

-- the words with a space between two of them, and a line feed
abbrev pub IsVersionLineOf : OtherVersion → List ℕ → Type 0
IsVersionLineOf o text = (time : List ℕ) × IsMomentText o.at.millis time × (text ≡ join_with_byte 32 (version_words time o) ++ 10 ∷ [])
