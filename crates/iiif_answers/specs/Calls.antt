-- What a call is answered: RFC 9110, section 9.
use Rattle.std.specs.Prelude.{◌≡◌, ℕ, Bool, true, false, ◌||◌, List, codes, bytes_eq, if◌then◌else◌}
use Rattle.iiif_request.specs.declared.request.Refusal.TheVariants.{Method}
use Rattle.iiif_answers.specs.Answers.{Reply, refused, Replies}
use Rattle.iiif_tile_group.specs.Collection.{Item}
use Rattle.iiif_answers.specs.Settings.{Settings}
use Rattle.iiif_answers.specs.declared.part.Part.{Part}
use Rattle.iiif_answers.specs.declared.part.Part.TheVariants.{Whole, Head}

-- section 9.3.2
abbrev pub is_head : List ℕ → Bool
is_head method = bytes_eq method (codes "HEAD")

-- GET and HEAD are answered (sections 9.3.1 and 9.3.2)
abbrev pub is_answered : List ℕ → Bool
is_answered method = bytes_eq method (codes "GET") || is_head method

-- the part of the answer that is sent: to HEAD its head alone, to any other method all of it
abbrev pub part_of : List ℕ → Bool → Part
part_of method close = if is_head method then Head close else Whole close

-- bytes, keeps: those of a source. honest: other nodes are. Another method is refused before the target is looked at.
pub data RepliesToCall {S : Type 0} (bytes : S → List ℕ) (keeps : S → Type 0) (honest : Bool) (settings : Settings) (items : List (Item S))
    (method target : List ℕ) : Reply S → Type 0 where
  no_method : is_answered method ≡ false → RepliesToCall bytes keeps honest settings items method target (refused Method)
  of_target : (r : Reply S) → is_answered method ≡ true → Replies bytes keeps honest settings items target r →
      RepliesToCall bytes keeps honest settings items method target r
