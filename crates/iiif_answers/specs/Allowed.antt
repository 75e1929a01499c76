-- Which text may be sent for a call, and with which result.
use Rattle.std.specs.Prelude.{◌≡◌, ℕ, ◌<◌, Bool, true, List, length, IsTrue, Result, Ok, Err}
use Rattle.iiif_source.specs.declared.ReadFault.{ReadFault}
use Rattle.iiif_pixel.specs.Picture.{Picture, dim_of}
use Rattle.iiif_tiff_read.specs.Layouts as layouts
use Rattle.iiif_tiff_write.specs.declared.kind.OutKind.{OutKind}
use Rattle.iiif_canonical.specs.Images as images
use Rattle.iiif_canonical.specs.Texts.{CanBeSpelled}
use Rattle.iiif_request.specs.declared.request.Request.{Request}
use Rattle.iiif_request.specs.declared.request.Refusal.{Refusal}
use Rattle.iiif_delivery.specs.Delivery.{IsHeldInBands}
use Rattle.iiif_answers.specs.Answers as answers
use Rattle.iiif_answers.specs.Answers.{Reply, Given, given}
use Rattle.iiif_tile_group.specs.Collection.{Item}
use Rattle.iiif_answers.specs.Responses.{Response, refusal_response, redirect_response, information_response, image_response, response_of}
use Rattle.iiif_answers.specs.Responses.{source_fault, want_of_memory, written, is_loaded}
use Rattle.iiif_answers.specs.Sent.{text_of}
use Rattle.iiif_io.specs.Sending.{IsStrictPrefix}
use Rattle.iiif_answers.specs.Settings.{Settings, limits_of}
use Rattle.iiif_answers.specs.declared.answer.Sent.{Sent}
use Rattle.iiif_answers.specs.declared.answer.Cut.{Cut}
use Rattle.iiif_answers.specs.declared.answer.Cause.{Cause}
use Rattle.iiif_answers.specs.declared.answer.Cause.TheVariants.{Writer, Load}
use Rattle.iiif_keys.specs.declared.fault.Fault.{Fault}
use Rattle.iiif_keys.specs.declared.fault.Fault.TheVariants.{Source, NoMemory}
use Rattle.iiif_answers.specs.declared.part.Part.{Part}
use Rattle.iiif_answers.specs.declared.part.Part.TheVariants.{Body, Whole, Head}

-- Which answers may be given. Reaches: the call reaches that reply. gave: the faults of reads that a source gave. The call's
-- own; where it reaches an image that is loaded for it, that of a fault that the image's source gave; and that of lack of
-- memory.
pub data MayAnswer {S : Type 0} (settings : Settings) (part : Part) (gave : S → ReadFault → Bool) (Reaches : Reply S → Type 0) : Response →
    Type 0 where
  own : (r : Reply S) → Reaches r → MayAnswer settings part gave Reaches (response_of settings r)
  source_failed : (g : Given S) (f : ReadFault) → Reaches (given g) → is_loaded part ≡ true → IsTrue (gave g.item.source f)
      → MayAnswer settings part gave Reaches source_fault
  memory_wanted : MayAnswer settings part gave Reaches want_of_memory

-- how many samples and sums of a reply were held at once, where that part of it was sent: of an image that is loaded, as many as
-- bands of its rows take, with the channels of its source; else none
abbrev pub HoldsFor : {S : Type 0} → Settings → Part → Reply S → ℕ → Type 0
HoldsFor settings part (answers.refused e) held = held ≡ 0
HoldsFor settings part (answers.redirect item) held = held ≡ 0
HoldsFor settings part (answers.described item d) held = held ≡ 0
HoldsFor settings Body (given g) held = IsHeldInBands (dim_of g.image) settings.band g.picture.channels held
HoldsFor settings (Whole close) (given g) held = IsHeldInBands (dim_of g.image) settings.band g.picture.channels held
HoldsFor settings (Head close) (given g) held = held ≡ 0

-- the same of an answer
abbrev pub Holds : {S : Type 0} (settings : Settings) (part : Part) (gave : S → ReadFault → Bool) (Reaches : Reply S → Type 0)
    (a : Response)
    → MayAnswer settings part gave Reaches a → ℕ → Type 0
Holds settings part gave Reaches _ (own r reached) held = HoldsFor settings part r held
Holds settings part gave Reaches _ (source_failed g f reached loaded failed) held = held ≡ 0
Holds settings part gave Reaches _ memory_wanted held = held ≡ 0

-- that answer may be given, and nothing is held of it
abbrev pub MayTell : {S : Type 0} → Settings → Part → (S → ReadFault → Bool) → (Reply S → Type 0) → Response → Type 0
MayTell settings part gave Reaches a = (may : MayAnswer settings part gave Reaches a) × Holds settings part gave Reaches a may 0

-- an image's load fails by a fault that its source gave, or for lack of memory
abbrev pub MayFail : {S : Type 0} → (S → ReadFault → Bool) → S → Fault → Type 0
MayFail gave source (Source f) = IsTrue (gave source f)
MayFail gave source NoMemory = Unit {0}
MayFail gave source _ = ⊥

-- the text is a strict prefix of that part of an image's answer: its whole head, and something of its body
pub record EndsInBody {S : Type 0} (settings : Settings) (part : Part) (g : Given S) (text : List ℕ) : Type 0 where
  pub prefix : IsStrictPrefix text (text_of (written part (response_of settings (given g))))
  pub past : length (written part (response_of settings (given g))).head < length text

-- What was sent before a call was cut off: a strict prefix of an answer where the writer failed during this call (writer);
-- of the image's own, from somewhere in its body on, where the rest of the image could not be loaded.
abbrev pub IsCut : {S : Type 0} → Settings → Part → (S → ReadFault → Bool) → (Reply S → Type 0) → Type 0 → List ℕ → Cause → Type 0
IsCut {S} settings part gave Reaches writer text Writer =
    writer × ((a : Response) × MayAnswer settings part gave Reaches a × IsStrictPrefix text (text_of (written part a)))
IsCut {S} settings part gave Reaches writer text (Load fault) =
    (g : Given S) × Reaches (given g) × MayFail gave g.item.source fault × EndsInBody settings part g text

-- The text may be what is sent of that part of an answer, with that result.
abbrev pub Allowed : {S : Type 0} → Settings → Part → (S → ReadFault → Bool) → (Reply S → Type 0) → Type 0 → List ℕ → Result Sent Cut →
    Type 0
Allowed settings part gave Reaches writer text (Ok sent) =
    (a : Response) × (may : MayAnswer settings part gave Reaches a) × (text ≡ text_of (written part a)) × (sent.status ≡ a.status)
    × (sent.bytes ≡ length text) × Holds settings part gave Reaches a may sent.held
Allowed settings part gave Reaches writer text (Err cut) = (cut.sent ≡ length text) × IsCut settings part gave Reaches writer text cut.cause

-- What may be said of an answer whatever the sources' reads give: it is a refusal; the place of an item's information; that
-- information, of the sides that the item's file said when it was opened; an image of an item, of the sides that a request comes
-- to for those; or a fault.
pub data IsFramed (S : Type 0) (settings : Settings) : Response → Type 0 where
  refusal : (e : Refusal) → IsFramed S settings (refusal_response e)
  redirect : (item : Item S) → IsFramed S settings (redirect_response settings.base item.name)
  information : (item : Item S) → IsFramed S settings (information_response settings item.name (layouts.dim_of item.layout))
  an_image : (item : Item S) (q canonical : Request) (p asked image : Picture) (kind : OutKind) → dim_of p ≡ layouts.dim_of item.layout
      → images.image p q (limits_of settings) ≡ Ok asked → dim_of image ≡ dim_of asked → CanBeSpelled canonical
      → IsFramed S settings (image_response settings.base item.name canonical image kind)
  failed_read : IsFramed S settings source_fault
  no_memory : IsFramed S settings want_of_memory

-- that part of such an answer was sent, or a strict prefix of it before it was cut off
abbrev pub IsFramedText : Type 0 → Settings → Part → List ℕ → Result Sent Cut → Type 0
IsFramedText S settings part text (Ok sent) = (a : Response) × IsFramed S settings a × (text ≡ text_of (written part a))
IsFramedText S settings part text (Err cut) = (a : Response) × IsFramed S settings a × IsStrictPrefix text (text_of (written part a))
