-- What is sent for an accepted image over devices that never fail.
use Rattle.std.specs.Prelude.{◌≡◌, ℕ, ◌⊎◌, Bool, List, IsTrue, Result, Ok, Err}
use Rattle.iiif_source.specs.declared.ReadFault.{ReadFault}
use Rattle.iiif_tile_group.specs.Collection.{Item}
use Rattle.iiif_keys.specs.declared.fault.Fault.TheVariants.{NoMemory}
use Rattle.iiif_answers.specs.Allowed.{Allowed, EndsInBody}
use Rattle.iiif_answers.specs.Answers.{Given, Reply, Replies, given}
use Rattle.iiif_answers.specs.Calls.{RepliesToCall}
use Rattle.iiif_answers.specs.Responses.{response_of, want_of_memory, written}
use Rattle.iiif_answers.specs.Sent.{text_of}
use Rattle.iiif_answers.specs.Settings.{Settings}
use Rattle.iiif_answers.specs.declared.answer.Cut.{Cut}
use Rattle.iiif_answers.specs.declared.answer.Cause.TheVariants.{Load}
use Rattle.iiif_answers.specs.declared.answer.Sent.{Sent}
use Rattle.iiif_answers.specs.declared.part.Part.{Part}

-- An image that the call reaches was sent whole, with status 200; or the answer to lack of memory was, with 500; or such an image was
-- cut off somewhere in its body, for lack of memory.
abbrev pub IsWholeOrWanting : {S : Type 0} → Settings → Part → (Reply S → Type 0) → List ℕ → Result Sent Cut → Type 0
IsWholeOrWanting {S} settings part Reaches text (Ok sent) =
    ((g : Given S) × Reaches (given g) × (text ≡ text_of (written part (response_of settings (given g)))) × (sent.status ≡ 200))
    ⊎ ((text ≡ text_of (written part want_of_memory)) × (sent.status ≡ 500))
IsWholeOrWanting {S} settings part Reaches text (Err cut) =
    (cut.cause ≡ Load NoMemory) × ((g : Given S) × Reaches (given g) × EndsInBody settings part g text)

-- Where the source of an image that the call reaches gave no fault and the writer didn't fail, what is sent for the call is nothing else.
abbrev pub IsImageAlone : {S : Type 0} → (S → ReadFault → Bool) → Type 0 → Settings → (Reply S → Type 0) → Type 0
IsImageAlone {S} gave writer settings Reaches =
    (part : Part) (g : Given S) (text : List ℕ) (result : Result Sent Cut) →
    ((h : Given S) (f : ReadFault) → Reaches (given h) → ¬ IsTrue (gave h.item.source f)) → ¬ writer
    → Reaches (given g) → Allowed settings part gave Reaches writer text result → IsWholeOrWanting settings part Reaches text result

-- So it is of each target and of each call.
abbrev pub WholeOverHonestDevices : {S : Type 0} → (S → List ℕ) → (S → Type 0) → Bool → (S → ReadFault → Bool) → Type 0 → Type 0
WholeOverHonestDevices {S} bytes keeps honest gave writer =
    (settings : Settings) (items : List (Item S)) (target : List ℕ) →
    IsImageAlone gave writer settings (Replies bytes keeps honest settings items target)
    × ((method : List ℕ) → IsImageAlone gave writer settings (RepliesToCall bytes keeps honest settings items method target))
