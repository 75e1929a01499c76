-- An answer that may be sent, sent.
use Rattle.std.proofs.Common.{◌≡◌, ℕ, List, Result, Ok, Err, sym, subst, refl, Bool, true, Option}
use Rattle.std.specs.Io.KnownBytes.{Appends}
use Rattle.std.specs.Prelude.{IfOk, IfErr}
use Rattle.iiif_answers.specs.declared.message.Message.{Message}
use Rattle.iiif_source.specs.declared.ReadFault.{ReadFault}
use Rattle.iiif_answers.specs.Sent.{answer_of, text_of, Answer, EndsWith, IsSent}
use Rattle.iiif_io.specs.Sending.{IsStrictPrefix}
use Rattle.iiif_answers.specs.Answers.{Reply, given, Replies, no_path, no_item, of_base, of_information, no_request, no_image, of_image}
use Rattle.iiif_answers.specs.Calls.{RepliesToCall, is_answered, no_method, of_target}
use Rattle.iiif_tile_group.specs.Collection.{Item}
use Rattle.iiif_answers.proofs.MessageLemmas.{may_be_given}
use Rattle.iiif_answers.specs.Responses.{Response, information_response, response_of, written, want_of_memory}
use Rattle.iiif_answers.specs.Settings.{Settings}
use Rattle.iiif_answers.specs.Allowed.{Holds, MayAnswer, own, source_failed, memory_wanted, Allowed, IsCut, IsFramed, refusal, redirect}
use Rattle.iiif_answers.specs.Allowed.{information, an_image, failed_read, no_memory, IsFramedText, MayTell}
use Rattle.iiif_answers.specs.Kinds.{kind_of, depth_of}
use Rattle.iiif_pixel.specs.Picture.{Picture, dim_of}
use Rattle.iiif_pixel.specs.declared.geometry.Dim.{Dim}
use Rattle.iiif_tiff_read.specs.Layouts as layouts
use Rattle.iiif_tiff_write.specs.OutKind.{out_kind_of}
use Rattle.iiif_request.specs.declared.request.Refusal.TheVariants.{Method, Path, Identifier}
use Rattle.iiif_answers.specs.declared.answer.Cause.TheVariants.{Writer, Load}
use Rattle.iiif_answers.specs.declared.answer.Sent.{Sent}
use Rattle.iiif_answers.specs.declared.answer.Cut.{Cut}
use Rattle.iiif_answers.specs.declared.answer.Cause.{Cause}
use Rattle.iiif_answers.specs.declared.part.Part.{Part}

ended : {S : Type 0} (s : Settings) (part : Part) (gave : S → ReadFault → Bool) (Reaches : Reply S → Type 0) (writer : Type 0)
    (text : List ℕ) (a : Response)
    (result : Result Sent Cut) → MayTell s part gave Reaches a → EndsWith writer (written part a) text result →
    Allowed s part gave Reaches writer text result
ended s part gave Reaches writer text a (Ok sent) tell ends =
    (a, tell.0, ends.0, ends.1, ends.2, subst (λ (n : ℕ). Holds s part gave Reaches a tell.0 n) (sym ends.3) tell.1)
ended s part gave Reaches writer text a (Err cut) tell ends =
    (ends.0, subst (λ (c : Cause). IsCut s part gave Reaches writer text c) (sym ends.1) (ends.2, (a, tell.0, ends.3)))

-- an answer was sent, and is one that may be sent
pub allowed : {S W : Type 0} (s : Settings) (part : Part) (gave : S → ReadFault → Bool) (Reaches : Reply S → Type 0)
    (fails : W → W → Type 0) (new : W)
    (text : List ℕ) (b : Answer) (result : Result Sent Cut) → EndsWith ((before : W) × fails before new) b text result
    → ((a : Response) × MayTell s part gave Reaches a × (b ≡ written part a))
    → Allowed s part gave Reaches ((before : W) × fails before new) text result
allowed {W = W} s part gave Reaches fails new text b result ends tell =
    ended s part gave Reaches ((before : W) × fails before new) text tell.0 result tell.1
    (subst (λ (x : Answer). EndsWith ((before : W) × fails before new) x text result) tell.2 ends)

-- ---- More replies may be reached

may_more : {S : Type 0} (s : Settings) (part : Part) (gave : S → ReadFault → Bool) (A B : Reply S → Type 0) → ((r : Reply S) → A r → B r)
    → (a : Response) → MayAnswer s part gave A a → MayAnswer s part gave B a
may_more s part gave A B more a (own r reached) = own r (more r reached)
may_more s part gave A B more a (source_failed g f reached loaded failed) = source_failed g f (more (given g) reached) loaded failed
may_more s part gave A B more a memory_wanted = memory_wanted

holds_more : {S : Type 0} (s : Settings) (part : Part) (gave : S → ReadFault → Bool) (A B : Reply S → Type 0)
    (more : (r : Reply S) → A r → B r)
    (a : Response) (may : MayAnswer s part gave A a) (n : ℕ) → Holds s part gave A a may n →
    Holds s part gave B a (may_more s part gave A B more a may) n
unfolding may_more
holds_more s part gave A B more a (own r reached) n holds = holds
holds_more s part gave A B more a (source_failed g f reached loaded failed) n holds = holds
holds_more s part gave A B more a memory_wanted n holds = holds

cut_more : {S : Type 0} (s : Settings) (part : Part) (gave : S → ReadFault → Bool) (A B : Reply S → Type 0) → ((r : Reply S) → A r → B r)
    → (writer : Type 0) (text : List ℕ) (cause : Cause) → IsCut s part gave A writer text cause → IsCut s part gave B writer text cause
cut_more s part gave A B more writer text Writer is = (is.0, (is.1.0, may_more s part gave A B more is.1.0 is.1.1, is.1.2))
cut_more s part gave A B more writer text (Load fault) is = (is.0, more (given is.0) is.1, is.2, is.3)

pub allowed_more : {S : Type 0} (s : Settings) (part : Part) (gave : S → ReadFault → Bool) (A B : Reply S → Type 0) →
    ((r : Reply S) → A r → B r)
    → (writer : Type 0) (text : List ℕ) (result : Result Sent Cut) → Allowed s part gave A writer text result →
    Allowed s part gave B writer text result
allowed_more s part gave A B more writer text (Ok sent) is =
    (is.0, may_more s part gave A B more is.0 is.1, is.2, is.3, is.4, holds_more s part gave A B more is.0 is.1 sent.held is.5)
allowed_more s part gave A B more writer text (Err cut) is = (is.0, cut_more s part gave A B more writer text cut.cause is.1)

-- the same of what was sent
pub sent_more : {S : Type 0} (s : Settings) (part : Part) (gave : S → ReadFault → Bool) (A B : Reply S → Type 0) →
    ((r : Reply S) → A r → B r)
    → (writer : Type 0) (old new : Option (List ℕ)) (result : Result Sent Cut) →
    ((text : List ℕ) × Appends old new text × Allowed s part gave A writer text result)
    → (text : List ℕ) × Appends old new text × Allowed s part gave B writer text result
sent_more s part gave A B more writer old new result sent = (sent.0, sent.1, allowed_more s part gave A B more writer sent.0 result sent.2)

-- the same of a call whose target is asked for
pub call_allowed : {S : Type 0} (bytes : S → List ℕ) (keeps : S → Type 0) (honest : Bool) (s : Settings) (items : List (Item S))
    (part asked : Part) (gave : S → ReadFault → Bool)
    (method at target : List ℕ) (writer : Type 0) (old new : Option (List ℕ)) (result : Result Sent Cut) → part ≡ asked → at ≡ target →
    is_answered method ≡ true
    → ((text : List ℕ) × Appends old new text × Allowed s part gave (Replies bytes keeps honest s items at) writer text result)
    → (text : List ℕ) × Appends old new text ×
    Allowed s asked gave (RepliesToCall bytes keeps honest s items method target) writer text result
call_allowed bytes keeps honest s items part asked gave method at target writer old new result same is answered sent =
    let more = sent_more s part gave (Replies bytes keeps honest s items at) (RepliesToCall bytes keeps honest s items method target)
    (λ r reached. of_target r answered (subst (λ (t : List ℕ). Replies bytes keeps honest s items t r) is reached)) writer old new result
    sent in (
      more.0,
      more.1,
      subst (λ (x : Part). Allowed s x gave (RepliesToCall bytes keeps honest s items method target) writer more.0 result) same more.2,
    )

-- the same of a part in other words
pub other_part : {S : Type 0} (s : Settings) (part asked : Part) (gave : S → ReadFault → Bool) (Reaches : Reply S → Type 0)
    (writer : Type 0) (old new : Option (List ℕ))
    (result : Result Sent Cut) → part ≡ asked → ((text : List ℕ) × Appends old new text × Allowed s part gave Reaches writer text result)
    → (text : List ℕ) × Appends old new text × Allowed s asked gave Reaches writer text result
other_part s part asked gave Reaches writer old new result same sent =
    (sent.0, sent.1, subst (λ (x : Part). Allowed s x gave Reaches writer sent.0 result) same sent.2)

-- ---- Answers that are made before they are sent

-- An answer that may be given, or that to lack of memory, was sent.
pub message_allowed : {S W E : Type 0} (s : Settings) (part : Part) (gave : S → ReadFault → Bool) (Reaches : Reply S → Type 0)
    (contents : W → Option (List ℕ)) (fails : W → W → Type 0) (old new : W) (m : Result Message E) (result : Result Sent Cut)
    → IfOk m (λ x. (a : Response) × MayTell s part gave Reaches a × (answer_of x ≡ written part a))
    → IfOk m (λ x. IsSent contents fails old new (answer_of x) result) →
    IfErr m (λ _. IsSent contents fails old new (written part want_of_memory) result)
    → (text : List ℕ) × Appends (contents old) (contents new) text ×
    Allowed s part gave Reaches ((before : W) × fails before new) text result
message_allowed s part gave Reaches contents fails old new (Ok x) result tell made memory =
    (made.0, made.1, allowed s part gave Reaches fails new made.0 (answer_of x) result made.2 tell)
message_allowed s part gave Reaches contents fails old new (Err e) result tell made memory = (
  memory.0,
  memory.1,
  allowed s part gave Reaches fails new memory.0 (written part want_of_memory) result memory.2
      (want_of_memory, (memory_wanted, refl), refl),
)

-- A refusal, a redirect, information, or that to lack of memory, was sent.
pub told_allowed : {S W E : Type 0} (s : Settings) (part : Part) (gave : S → ReadFault → Bool) (Reaches : Reply S → Type 0)
    (contents : W → Option (List ℕ)) (fails : W → W → Type 0) (old new : W) (m : Result Message E) (result : Result Sent Cut) (a : Response)
    → MayTell s part gave Reaches a → IfOk m (λ x. answer_of x ≡ written part a)
    → IfOk m (λ x. IsSent contents fails old new (answer_of x) result) →
    IfErr m (λ _. IsSent contents fails old new (written part want_of_memory) result)
    → (text : List ℕ) × Appends (contents old) (contents new) text ×
    Allowed s part gave Reaches ((before : W) × fails before new) text result
told_allowed s part gave Reaches contents fails old new m result a tell is made memory =
    message_allowed s part gave Reaches contents fails old new m result (may_be_given s part gave Reaches m a tell is) made memory

-- The answer to lack of memory was sent.
pub memory_allowed : {S W : Type 0} (s : Settings) (part : Part) (gave : S → ReadFault → Bool) (Reaches : Reply S → Type 0)
    (contents : W → Option (List ℕ)) (fails : W → W → Type 0) (old new : W) (result : Result Sent Cut) →
    IsSent contents fails old new (written part want_of_memory) result
    → (text : List ℕ) × Appends (contents old) (contents new) text ×
    Allowed s part gave Reaches ((before : W) × fails before new) text result
memory_allowed s part gave Reaches contents fails old new result memory = (
  memory.0,
  memory.1,
  allowed s part gave Reaches fails new memory.0 (written part want_of_memory) result memory.2
      (want_of_memory, (memory_wanted, refl), refl),
)

-- ---- What is framed, whatever the reads gave

information_framed : {S : Type 0} (s : Settings) (item : Item S) (p : Picture) → dim_of p ≡ layouts.dim_of item.layout
    → IsFramed S s (information_response s item.name (dim_of p))
information_framed {S} s item p sides = subst (λ (d : Dim). IsFramed S s (information_response s item.name d)) (sym sides)
    (information item)

-- each reply to a target is
reply_framed : {S : Type 0} (bytes : S → List ℕ) (keeps : S → Type 0) (honest : Bool) (s : Settings) (items : List (Item S))
    (target : List ℕ) (r : Reply S)
    → Replies bytes keeps honest s items target r → IsFramed S s (response_of s r)
reply_framed bytes keeps honest s items target _ (no_path none) = refusal Path
reply_framed bytes keeps honest s items target _ (no_item r asks none) = refusal Identifier
reply_framed bytes keeps honest s items target _ (of_base id item asks found) = redirect item
reply_framed bytes keeps honest s items target _ (of_information id item p asks found is) = information_framed s item p is.sides
reply_framed bytes keeps honest s items target _ (no_request id w item e asks found says) = refusal e
reply_framed bytes keeps honest s items target _ (no_image id w item p q e asks found is says none) = refusal e
reply_framed bytes keeps honest s items target _ (of_image id w g asks found is) =
    an_image g.item g.request g.canonical g.picture g.asked g.image (out_kind_of (kind_of g.picture) (depth_of g.picture) g.request.quality)
    is.is_picture.sides is.is_image is.sent.sides is.spelled

call_framed : {S : Type 0} (bytes : S → List ℕ) (keeps : S → Type 0) (honest : Bool) (s : Settings) (items : List (Item S))
    (method target : List ℕ) (r : Reply S)
    → RepliesToCall bytes keeps honest s items method target r → IsFramed S s (response_of s r)
call_framed bytes keeps honest s items method target _ (no_method other) = refusal Method
call_framed bytes keeps honest s items method target _ (of_target r answered reached) =
    reply_framed bytes keeps honest s items target r reached

answer_framed : {S : Type 0} (s : Settings) (part : Part) (gave : S → ReadFault → Bool) (Reaches : Reply S → Type 0) →
    ((r : Reply S) → Reaches r → IsFramed S s (response_of s r))
    → (a : Response) → MayAnswer s part gave Reaches a → IsFramed S s a
answer_framed s part gave Reaches each a (own r reached) = each r reached
answer_framed s part gave Reaches each a (source_failed g f reached loaded failed) = failed_read
answer_framed s part gave Reaches each a memory_wanted = no_memory

cut_framed : {S : Type 0} (s : Settings) (part : Part) (gave : S → ReadFault → Bool) (Reaches : Reply S → Type 0) (writer : Type 0)
    (text : List ℕ) (cause : Cause)
    → ((r : Reply S) → Reaches r → IsFramed S s (response_of s r)) → IsCut s part gave Reaches writer text cause
    → (a : Response) × IsFramed S s a × IsStrictPrefix text (text_of (written part a))
cut_framed s part gave Reaches writer text Writer each is = (is.1.0, answer_framed s part gave Reaches each is.1.0 is.1.1, is.1.2)
cut_framed s part gave Reaches writer text (Load fault) each is = (response_of s (given is.0), each (given is.0) is.1, is.3.prefix)

text_framed : {S : Type 0} (s : Settings) (part : Part) (gave : S → ReadFault → Bool) (Reaches : Reply S → Type 0) (writer : Type 0)
    (text : List ℕ) (result : Result Sent Cut)
    → ((r : Reply S) → Reaches r → IsFramed S s (response_of s r)) → Allowed s part gave Reaches writer text result →
    IsFramedText S s part text result
text_framed s part gave Reaches writer text (Ok sent) each is = (is.0, answer_framed s part gave Reaches each is.0 is.1, is.2)
text_framed s part gave Reaches writer text (Err cut) each is = cut_framed s part gave Reaches writer text cut.cause each is.1

-- what may be sent for a target is framed, and what may be sent for a call
pub body_framed : {S : Type 0} (bytes : S → List ℕ) (keeps : S → Type 0) (honest : Bool) (s : Settings) (items : List (Item S))
    (part : Part) (gave : S → ReadFault → Bool) (target : List ℕ)
    (writer : Type 0) (old new : Option (List ℕ)) (result : Result Sent Cut)
    → ((text : List ℕ) × Appends old new text × Allowed s part gave (Replies bytes keeps honest s items target) writer text result)
    → (text : List ℕ) × Appends old new text × IsFramedText S s part text result
body_framed bytes keeps honest s items part gave target writer old new result sent = (
  sent.0,
  sent.1,
  text_framed s part gave (Replies bytes keeps honest s items target) writer sent.0 result (reply_framed bytes keeps honest s items target)
      sent.2,
)

pub answer_to_call_framed : {S : Type 0} (bytes : S → List ℕ) (keeps : S → Type 0) (honest : Bool) (s : Settings) (items : List (Item S))
    (part : Part) (gave : S → ReadFault → Bool)
    (method target : List ℕ) (writer : Type 0) (old new : Option (List ℕ)) (result : Result Sent Cut)
    → ((text : List ℕ) × Appends old new text ×
    Allowed s part gave (RepliesToCall bytes keeps honest s items method target) writer text result)
    → (text : List ℕ) × Appends old new text × IsFramedText S s part text result
answer_to_call_framed bytes keeps honest s items part gave method target writer old new result sent = (
  sent.0,
  sent.1,
  text_framed s part gave (RepliesToCall bytes keeps honest s items method target) writer sent.0 result
      (call_framed bytes keeps honest s items method target) sent.2,
)

pub call_text_framed : {S : Type 0} (bytes : S → List ℕ) (keeps : S → Type 0) (honest : Bool) (gave : S → ReadFault → Bool)
    (writer : Type 0) (s : Settings) (items : List (Item S))
    (part : Part) (method target text : List ℕ) (result : Result Sent Cut) →
    Allowed s part gave (RepliesToCall bytes keeps honest s items method target) writer text result
    → IsFramedText S s part text result
call_text_framed bytes keeps honest gave writer s items part method target text result sent =
    text_framed s part gave (RepliesToCall bytes keeps honest s items method target) writer text result
    (call_framed bytes keeps honest s items method target) sent
