-- Answers made, told by their definitions.
use Rattle.std.proofs.Common.{◌≡◌, ◌≢◌, ℕ, Bool, true, false, List, [], ◌∷◌, length, Result, refl, sym, ap, ◌∙◌}
use Rattle.std.specs.Prelude.{IfOk, codes, nat_lt}
use Rattle.iiif_http_front.specs.Statuses.{reason_phrase}
use Rattle.std.proofs.lemmas.Result.{IfOk-weaker}
use Rattle.iiif_source.specs.declared.ReadFault.{ReadFault}
use Rattle.iiif_answers.specs.Allowed.{MayTell}
use Rattle.iiif_answers.specs.Answers.{Reply}
use Rattle.iiif_answers.specs.Settings.{Settings}
use Rattle.iiif_request.specs.Refusals.{status_of, line_of}
use Rattle.iiif_request.specs.declared.request.Refusal.{Refusal}
use Rattle.iiif_request.specs.declared.request.Refusal.TheVariants.{Head, Method, Path, Identifier, Region, Size, Rotation, Quality}
use Rattle.iiif_request.specs.declared.request.Refusal.TheVariants.{Format, Empty, Zero, Larger, Upscale, Limit}
use Rattle.iiif_answers.specs.Sent.{answer_of}
use Rattle.iiif_answers.specs.Responses.{Response, written, line, content_type, any_origin, allowed_methods, refusal_response}
use Rattle.iiif_answers.specs.declared.message.Message.{Message}
use Rattle.iiif_answers.specs.declared.part.Part.{Part}

-- no methods are named where the method wasn't at fault
pub no_methods : (e : Refusal) → e ≢ Method → allowed_methods e ≡ []
no_methods Head other = refl
no_methods Method other = absurd (other refl)
no_methods Path other = refl
no_methods Identifier other = refl
no_methods Region other = refl
no_methods Size other = refl
no_methods Rotation other = refl
no_methods Quality other = refl
no_methods Format other = refl
no_methods Empty other = refl
no_methods Zero other = refl
no_methods Larger other = refl
no_methods Upscale other = refl
no_methods Limit other = refl

refusal_phrase : (e : Refusal) → nat_lt 0 (length (reason_phrase (status_of e))) ≡ true
refusal_phrase Method = refl
refusal_phrase Head = refl
refusal_phrase Path = refl
refusal_phrase Identifier = refl
refusal_phrase Region = refl
refusal_phrase Size = refl
refusal_phrase Rotation = refl
refusal_phrase Quality = refl
refusal_phrase Format = refl
refusal_phrase Empty = refl
refusal_phrase Zero = refl
refusal_phrase Larger = refl
refusal_phrase Upscale = refl
refusal_phrase Limit = refl

-- the status of a refusal is one that heads are written of
pub refusal_has_status : (e : Refusal) → reason_phrase (status_of e) ≡ [] → ⊥
refusal_has_status e none = let both : true ≡ false = sym (refusal_phrase e) ∙ ap (λ (t : List ℕ). nat_lt 0 (length t)) none in cc

-- an answer made of a refusal's status, fields and line
pub refusal_made : {E : Type 0} (r : Result Message E) (part : Part) (e : Refusal) (status : ℕ) (more : List (List ℕ × List ℕ))
    (body : List ℕ)
    → status ≡ status_of e → more ≡ allowed_methods e → body ≡ line (line_of e)
    → IfOk r (λ m. answer_of m ≡ written part (record
    { status = status; fields = content_type (codes "text/plain") ∷ any_origin ∷ more; body = body }))
    → IfOk r (λ m. answer_of m ≡ written part (refusal_response e))
refusal_made r part e status more body s f b made = rw (s, f, b) at made

-- an answer that may be given, and of which nothing is held, was made
pub may_be_given : {S E : Type 0} (s : Settings) (part : Part) (gave : S → ReadFault → Bool) (Reaches : Reply S → Type 0)
    (r : Result Message E) (a : Response)
    → MayTell s part gave Reaches a → IfOk r (λ m. answer_of m ≡ written part a)
    → IfOk r (λ m. (x : Response) × MayTell s part gave Reaches x × (answer_of m ≡ written part x))
may_be_given s part gave Reaches r a tell made = IfOk-weaker r (λ m. answer_of m ≡ written part a)
    (λ m. (x : Response) × MayTell s part gave Reaches x × (answer_of m ≡ written part x)) (λ m is. (a, tell, is)) made
