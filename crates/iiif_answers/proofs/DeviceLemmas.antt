-- What takes the place of an accepted image over devices that never fail: nothing but lack of memory.
use Rattle.std.proofs.Common.{◌≡◌, ◌⊎◌, inl, inr, ℕ, Bool, true, false, List, Some, Result, Ok, Err, IsTrue, refl, sym, ap, ◌∙◌, subst}
use Rattle.std.proofs.lemmas.Option.{none-some, same_Some}
use Rattle.iiif_source.specs.declared.ReadFault.{ReadFault}
use Rattle.iiif_pixel.specs.Operations.{crop, turn, quality}
use Rattle.iiif_pixel.specs.Picture.{Picture, dim_of}
use Rattle.iiif_pixel.specs.Scaling.{scale}
use Rattle.iiif_tiff_read.specs.Layouts as layouts
use Rattle.iiif_request.specs.Spells.{Texts, Says}
use Rattle.iiif_request.specs.Targets.{Resource, base, information, image, AsksFor}
use Rattle.iiif_request.specs.declared.request.Request.{Request}
use Rattle.iiif_request.specs.declared.request.Refusal.{Refusal}
use Rattle.iiif_canonical.specs.Images as images
use Rattle.iiif_canonical.specs.Regions.{region_of}
use Rattle.iiif_canonical.specs.Resolution.{◌>>=◌, turn_of}
use Rattle.iiif_canonical.specs.Sizes.{size_of}
use Rattle.iiif_canonical.specs.declared.resolved.Limits.{Limits}
use Rattle.iiif_tile_group.specs.Collection.{Item, item_named}
use Rattle.iiif_keys.specs.declared.fault.Fault.TheVariants.{Source, NoMemory, UnknownName, BadKey}
use Rattle.iiif_answers.specs.Allowed.{Allowed, EndsInBody, IsCut, MayAnswer, own, source_failed, memory_wanted}
use Rattle.iiif_answers.specs.Answers.{Given, IsGiven, Reply, Replies, given, identifier_of, refused, redirect, described, no_path}
use Rattle.iiif_answers.specs.Answers.{no_item, of_base, of_information, no_request, no_image, of_image}
use Rattle.iiif_answers.specs.BaseUrl.{path_of}
use Rattle.iiif_answers.specs.Calls.{RepliesToCall, no_method, of_target, is_answered}
use Rattle.iiif_answers.specs.Devices.{IsWholeOrWanting, WholeOverHonestDevices}
use Rattle.iiif_answers.specs.Responses.{Response, response_of, want_of_memory, written}
use Rattle.iiif_answers.specs.Sent.{text_of}
use Rattle.iiif_answers.specs.Settings.{Settings, limits_of}
use Rattle.iiif_answers.specs.declared.answer.Cause.{Cause}
use Rattle.iiif_answers.specs.declared.answer.Cause.TheVariants.{Writer, Load}
use Rattle.iiif_answers.specs.declared.answer.Cut.{Cut}
use Rattle.iiif_answers.specs.declared.answer.Sent.{Sent}
use Rattle.iiif_answers.specs.declared.part.Part.{Part}

-- every reply that may be given is an image
abbrev pub IsAlone : {S : Type 0} → (Reply S → Type 0) → Type 0
IsAlone {S} Reaches = (r : Reply S) → Reaches r → (g : Given S) × (r ≡ given g)

-- ---- From what may be answered

module _ {S : Type 0} (gave : S → ReadFault → Bool) (writer : Type 0) (settings : Settings) (part : Part) (Reaches : Reply S → Type 0)
    (alone : IsAlone Reaches)
    (never : (h : Given S) (f : ReadFault) → Reaches (given h) → ¬ IsTrue (gave h.item.source f)) (no_writer : ¬ writer) where
  abbrev Answered : Response → Type 0
  Answered a = ((g : Given S) × Reaches (given g) × (a ≡ response_of settings (given g))) ⊎ (a ≡ want_of_memory)

  by_answer : (a : Response) → MayAnswer settings part gave Reaches a → Answered a
  by_answer _ (own r reached) =
      let is = alone r reached in
      inl (is.0, subst (λ (x : Reply S). Reaches x) is.1 reached, ap (λ (x : Reply S). response_of settings x) is.1)
  by_answer _ (source_failed g f reached loaded failed) = absurd (never g f reached failed)
  by_answer _ memory_wanted = inr refl

  whole : (a : Response) (text : List ℕ) (sent : Sent) → Answered a → text ≡ text_of (written part a) → sent.status ≡ a.status →
      IsWholeOrWanting settings part Reaches text (Ok sent)
  whole a text sent (inl sent_image) is status =
      inl (
        sent_image.0,
        sent_image.1,
        is ∙ ap (λ (r : Response). text_of (written part r)) sent_image.2,
        status ∙
            ap (λ (r : Response). r.status) sent_image.2,
      )
  whole a text sent (inr wanted) is status = inr
      (is ∙ ap (λ (r : Response). text_of (written part r)) wanted, status ∙ ap (λ (r : Response). r.status) wanted)

  by_cause : (text : List ℕ) (cause : Cause) → IsCut settings part gave Reaches writer text cause
      → (cause ≡ Load NoMemory) × ((g : Given S) × Reaches (given g) × EndsInBody settings part g text)
  by_cause text Writer is = absurd (no_writer is.0)
  by_cause text (Load (Source f)) is = absurd (never is.0 f is.1 is.2)
  by_cause text (Load NoMemory) is = (refl, (is.0, is.1, is.3))
  by_cause text (Load UnknownName) is = absurd is.2
  by_cause text (Load BadKey) is = absurd is.2

  image_alone : (text : List ℕ) (result : Result Sent Cut) → Allowed settings part gave Reaches writer text result →
      IsWholeOrWanting settings part Reaches text result
  image_alone text (Ok sent) may = whole may.0 text sent (by_answer may.0 may.1) may.2 may.3
  image_alone text (Err cut) may = by_cause text cut.cause may.1

-- ---- A target that reaches an image reaches nothing else

-- of steps of which the last never fails, the first two refuse
refused_second : {B C : Type 0} (size : Result B Refusal) (f g : B → C) (e : Refusal) (x : C) → (size >>= λ b. Ok (f b)) ≡ Err e →
    (size >>= λ b. Ok (g b)) ≡ Ok x → ⊥
refused_second (Ok b) f g e x refusal is = cc
refused_second (Err r) f g e x refusal is = cc

refused_first : {A B C : Type 0} (rect : Result A Refusal) (size : A → Result B Refusal) (f g : A → B → C) (e : Refusal) (x : C)
    → (rect >>= λ a. size a >>= λ b. Ok (f a b)) ≡ Err e → (rect >>= λ a. size a >>= λ b. Ok (g a b)) ≡ Ok x → ⊥
refused_first (Ok a) size f g e x refusal is = refused_second (size a) (f a) (g a) e x refusal is
refused_first (Err r) size f g e x refusal is = cc

-- the refusals of an image depend on the picture's sides alone
refused_by_sides : (p q : Picture) (r : Request) (l : Limits) (e : Refusal) (x : Picture) → dim_of p ≡ dim_of q →
    images.image p r l ≡ Err e → images.image q r l ≡ Ok x → ⊥
unfolding images.image
refused_by_sides p q r l e x sides refusal is =
    let made : Picture → _ → _ → Picture = λ o rect size. quality (turn (scale (crop o rect) size) (turn_of r.rotation)) r.quality in
    refused_first (region_of r.region (dim_of q)) (λ rect. size_of r.size rect.w rect.h l) (made p) (made q) e x
    (subst (λ d. (region_of r.region d >>= λ rect. size_of r.size rect.w rect.h l >>= λ size. Ok (made p rect size)) ≡ Err e) sides refusal)
    is

ok_err : {A : Type 0} (x : A) (e : Refusal) → Err e ≡ Ok x → ⊥
ok_err x e same = cc

abbrev said : {A : Type 0} → A → Result A Refusal
said x = Ok x

one_ok : {A : Type 0} (x y : A) → said x ≡ said y → x ≡ y
one_ok x y e = cc

base_image : (id name : List ℕ) (w : Texts) → base id ≡ image name w → ⊥
base_image id name w e = cc

information_image : (id name : List ℕ) (w : Texts) → information id ≡ image name w → ⊥
information_image id name w e = cc

abbrev texts_in : Texts → Resource → Texts
texts_in d (base id) = d
texts_in d (information id) = d
texts_in d (image id w) = w

module _ {S : Type 0} (bytes : S → List ℕ) (keeps : S → Type 0) (honest : Bool) (settings : Settings) (items : List (Item S))
    (target : List ℕ)
    (asked_once : (r s : Resource) → AsksFor (path_of settings.base) target r → AsksFor (path_of settings.base) target s → r ≡ s)
    (says_once : (w : Texts) (a b : Result Request Refusal) → Says w a → Says w b → a ≡ b) where
  abbrev AsksImage : Given S → Type 0
  AsksImage g = (id : List ℕ) × (w : Texts) × AsksFor (path_of settings.base) target (image id w) × (item_named items id ≡ Some g.item) ×
      IsGiven bytes keeps honest (limits_of settings) w g

  abbrev same_given : Given S → Reply S → Given S
  same_given d (given g) = g
  same_given d (refused e) = d
  same_given d (redirect item) = d
  same_given d (described item x) = d

  image_asked : (r : Reply S) (g : Given S) → r ≡ given g → Replies bytes keeps honest settings items target r → AsksImage g
  image_asked _ g e (no_path none) = cc
  image_asked _ g e (no_item s asks missing) = cc
  image_asked _ g e (of_base id item asks found) = cc
  image_asked _ g e (of_information id item p asks found is) = cc
  image_asked _ g e (no_request id w item refusal asks found says) = cc
  image_asked _ g e (no_image id w item p q refusal asks found is says refuses) = cc
  image_asked _ g e (of_image id w h asks found is) =
      let same : h ≡ g = ap (same_given h) e in subst (λ (x : Given S). AsksImage x) same (id, w, asks, found, is)

  -- nor is anything else replied
  image_only : (r : Reply S) (g : Given S) → AsksImage g → Replies bytes keeps honest settings items target r → (h : Given S) ×
      (r ≡ given h)
  image_only _ g a (no_path none) = absurd (none (image a.0 a.1) a.2)
  image_only _ g a (no_item s asks missing) =
      let same : identifier_of s ≡ a.0 = ap identifier_of (asked_once s (image a.0 a.1) asks a.2) in
      absurd (none-some g.item (sym (sym a.3 ∙ ap (item_named items) (sym same) ∙ missing)))
  image_only _ g a (of_base id item asks found) = absurd (base_image id a.0 a.1 (asked_once (base id) (image a.0 a.1) asks a.2))
  image_only _ g a (of_information id item p asks found is) =
      absurd (information_image id a.0 a.1 (asked_once (information id) (image a.0 a.1) asks a.2))
  image_only _ g a (no_request id w item refusal asks found says) =
      let words : w ≡ a.1 = ap (texts_in w) (asked_once (image id w) (image a.0 a.1) asks a.2) in
      absurd (ok_err g.request refusal (says_once a.1 (Err refusal) (Ok g.request) (subst (λ (t : Texts). Says t (Err refusal)) words says)
      a.4.says))
  image_only _ g a (no_image id w item p q refusal asks found is says refuses) =
      let same = asked_once (image id w) (image a.0 a.1) asks a.2 in
      let words : w ≡ a.1 = ap (texts_in w) same in
      let one : item ≡ g.item = same_Some item g.item (sym found ∙ ap (item_named items) (ap identifier_of same) ∙ a.3) in
      let request : q ≡ g.request = one_ok q g.request
      (says_once a.1 (Ok q) (Ok g.request) (subst (λ (t : Texts). Says t (Ok q)) words says) a.4.says) in
      let sides : dim_of p ≡ dim_of g.picture = is.sides ∙ ap (λ (i : Item S). layouts.dim_of i.layout) one ∙ sym a.4.is_picture.sides in
      absurd (refused_by_sides p g.picture g.request (limits_of settings) refusal g.asked sides
      (subst (λ (t : Request). images.image p t (limits_of settings) ≡ Err refusal) request refuses) a.4.is_image)
  image_only _ g a (of_image id w h asks found is) = (h, refl)

  pub target_alone : (g : Given S) → Replies bytes keeps honest settings items target (given g) →
      IsAlone (Replies bytes keeps honest settings items target)
  target_alone g reached = λ r may. image_only r g (image_asked (given g) g refl reached) may

  reached_by_call : (method : List ℕ) (r : Reply S) (g : Given S) → r ≡ given g →
      RepliesToCall bytes keeps honest settings items method target r
      → (is_answered method ≡ true) × Replies bytes keeps honest settings items target r
  reached_by_call method _ g e (no_method other) = cc
  reached_by_call method _ g e (of_target r answered replies) = (answered, replies)

  answered_once : (method : List ℕ) → is_answered method ≡ false → is_answered method ≡ true → ⊥
  answered_once method unanswered answered = cc

  pub call_alone : (method : List ℕ) (g : Given S) → RepliesToCall bytes keeps honest settings items method target (given g)
      → IsAlone (RepliesToCall bytes keeps honest settings items method target)
  call_alone method g reached = by_reply
    where
      by_reply : (r : Reply S) → RepliesToCall bytes keeps honest settings items method target r → (h : Given S) × (r ≡ given h)
      by_reply _ (no_method other) = absurd (answered_once method other (reached_by_call method (given g) g refl reached).0)
      by_reply _ (of_target r answered replies) = target_alone g (reached_by_call method (given g) g refl reached).1 r replies

pub whole_over : {S : Type 0} (bytes : S → List ℕ) (keeps : S → Type 0) (honest : Bool) (gave : S → ReadFault → Bool) (writer : Type 0)
    → ((prefix target : List ℕ) (r s : Resource) → AsksFor prefix target r → AsksFor prefix target s → r ≡ s)
    → ((w : Texts) (a b : Result Request Refusal) → Says w a → Says w b → a ≡ b) → WholeOverHonestDevices bytes keeps honest gave writer
whole_over {S} bytes keeps honest gave writer asked_once says_once settings items target =
    let asked = asked_once (path_of settings.base) target in (
      λ part g text result never no_writer reached may.
          image_alone gave writer settings part (Replies bytes keeps honest settings items target)
          (target_alone bytes keeps honest settings items target asked says_once g reached)
          never no_writer text result may,
      λ method part g text result never no_writer reached may.
          image_alone gave writer settings part (RepliesToCall bytes keeps honest settings items method target)
          (call_alone bytes keeps honest settings items target asked says_once method g reached) never no_writer text result may,
    )
