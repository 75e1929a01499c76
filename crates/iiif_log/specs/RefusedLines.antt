-- The line of another node that refuses asks for an image.
use Rattle.std.specs.Prelude.{◌≡◌, ℕ, List, [], ◌∷◌, ◌++◌, codes}
use Rattle.std.specs.List.{join_with_byte}
use Rattle.iiif_log.specs.Escapes.{escaped}
use Rattle.iiif_log.specs.Moments.{IsMomentText}
use Rattle.iiif_log.specs.declared.refused_image.RefusedImage.{RefusedImage}

-- The words of a line at this time: when, what it tells of, the node's name, the image's name.
abbrev pub refused_words : List ℕ → RefusedImage → List (List ℕ)
refused_words time o = time ∷ codes "refused-image" ∷ escaped o.name.now ∷ escaped o.image.now ∷ []

-- the words with a space between two of them, and a line feed
abbrev pub IsRefusedLineOf : RefusedImage → List ℕ → Type 0
IsRefusedLineOf o text = (time : List ℕ) × IsMomentText o.at.millis time × (text ≡ join_with_byte 32 (refused_words time o) ++ 10 ∷ [])
