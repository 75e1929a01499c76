-- The reply to a target, from what the calls answered.
use Rattle.std.proofs.Common.{◌≡◌, ℕ, Bool, List, Some, Result, Ok, Err, ◌∙◌, sym, ap, subst, String, Global, string_bytes}
use Rattle.iiif_pixel.specs.Picture.{Picture, dim_of}
use Rattle.iiif_pixel.specs.declared.geometry.Dim.{Dim}
use Rattle.iiif_tiff_write.specs.OutKind.{out_kind_of}
use Rattle.iiif_request.specs.Targets.{AsksFor, resource_of}
use Rattle.iiif_request.specs.Words.{texts}
use Rattle.iiif_request.specs.declared.request.Request.{Request}
use Rattle.iiif_request.specs.declared.request.Refusal.{Refusal}
use Rattle.iiif_request.specs.declared.target.Target.{Target}
use Rattle.iiif_request.specs.declared.target.Words.{Words}
use Rattle.iiif_canonical.specs.Images.{resolved_image}
use Rattle.iiif_canonical.specs.declared.resolved.Limits.{Limits}
use Rattle.iiif_answers.specs.BaseUrl.{path_of}
use Rattle.iiif_answers.specs.Settings.{Settings, limits_of}
use Rattle.std.specs.Prelude.{IsTrue}
use Rattle.iiif_tile_group.specs.Collection.{Item, item_named}
use Rattle.iiif_answers.specs.Kinds.{kind_of, depth_of}
use Rattle.iiif_answers.specs.Answers as answers
use Rattle.iiif_answers.specs.Answers.{Replies, identifier_of, of_image, of_base, of_information, redirect, refused, described, given}
use Rattle.iiif_answers.specs.Answers.{IsPictureOf, IsSentFor}
use Rattle.iiif_answers.specs.Outcomes.{Accepts, IsRefused, no_request, no_image, Comes, given_of}
use Rattle.iiif_answers.specs.declared.accepted.Accepted.{Accepted}

asked : (path prefix target : List ℕ) (t u : Target) → prefix ≡ path → AsksFor prefix target (resource_of t) → t ≡ u →
    AsksFor path target (resource_of u)
asked path prefix target t u p asks e =
    subst (λ (x : Target). AsksFor path target (resource_of x)) e (subst (λ (x : List ℕ). AsksFor x target (resource_of t)) p asks)

named : {S : Type 0} (items : List (Item S)) (id : List ℕ) (t u : Target) (item : Item S) → t ≡ u → id ≡ identifier_of (resource_of t)
    → Some item ≡ item_named items id → item_named items (identifier_of (resource_of u)) ≡ Some item
named items id t u item e same found =
    ap (λ (x : Target). item_named items (identifier_of (resource_of x))) (sym e) ∙ ap (item_named items) (sym same) ∙ sym found

-- what stands of a target: what it asks for, and the item that has that name
pub record Asks {S : Type 0} (settings : Settings) (items : List (Item S)) (target : List ℕ) (u : Target) (item : Item S) : Type 0 where
  pub asks : AsksFor (path_of settings.base) target (resource_of u)
  pub found : item_named items (identifier_of (resource_of u)) ≡ Some item

pub asks_for : {S : Type 0} (settings : Settings) (items : List (Item S)) (target prefix id : List ℕ) (t u : Target) (item : Item S)
    → prefix ≡ path_of settings.base → AsksFor prefix target (resource_of t) → t ≡ u → id ≡ identifier_of (resource_of t)
    → Some item ≡ item_named items id → Asks settings items target u item
asks_for settings items target prefix id t u item p asks e same found = record {
  asks = asked (path_of settings.base) prefix target t u p asks e;
  found = named items id t u item e same found;
}

pub base_replies : {S : Type 0} (bytes : S → List ℕ) (keeps : S → Type 0) (honest : Bool) (settings : Settings) (items : List (Item S))
    (target : List ℕ) (f : String Global) (item : Item S)
    → Asks settings items target (Target.Base f) item → Replies bytes keeps honest settings items target (redirect item)
base_replies bytes keeps honest settings items target f item a = of_base (string_bytes f) item a.asks a.found

pub information_replies : {S : Type 0} (bytes : S → List ℕ) (keeps : S → Type 0) (honest : Bool) (settings : Settings)
    (items : List (Item S)) (target : List ℕ) (f : String Global)
    (item : Item S) (d : Dim) → Asks settings items target (Target.Info f) item
    → ((p : Picture) × IsPictureOf bytes keeps item p × (dim_of p ≡ d)) →
    Replies bytes keeps honest settings items target (described item d)
information_replies bytes keeps honest settings items target f item d a shown =
    subst (λ (x : Dim). Replies bytes keeps honest settings items target (described item x)) shown.2
    (of_information (string_bytes f) item shown.0 a.asks a.found shown.1)

refused_reply : {S : Type 0} (bytes : S → List ℕ) (keeps : S → Type 0) (honest : Bool) (settings : Settings) (items : List (Item S))
    (target : List ℕ) (f : String Global) (w : Words)
    (item : Item S) (e : Refusal) → Asks settings items target (Target.Image f w) item →
    IsRefused bytes keeps item (limits_of settings) (texts w) e
    → Replies bytes keeps honest settings items target (refused e)
refused_reply bytes keeps honest settings items target f w item e a (no_request says) =
    answers.no_request (string_bytes f) (texts w) item e a.asks a.found says
refused_reply bytes keeps honest settings items target f w item e a (no_image q p is says none) =
    answers.no_image (string_bytes f) (texts w) item p q e a.asks a.found is says none

-- the words of a request are refused
pub words_refused : {S : Type 0} (bytes : S → List ℕ) (keeps : S → Type 0) (honest : Bool) (settings : Settings) (items : List (Item S))
    (target : List ℕ) (f : String Global) (w : Words)
    (item : Item S) (limits : Limits) (e : Refusal) (r : Result Accepted Refusal) → Asks settings items target (Target.Image f w) item →
    limits ≡ limits_of settings
    → r ≡ Err e → Accepts bytes keeps item limits (texts w) r → Replies bytes keeps honest settings items target (refused e)
words_refused bytes keeps honest settings items target f w item limits e r a l is_err accepts =
    let refusal : IsRefused bytes keeps item limits (texts w) e = subst (Accepts bytes keeps item limits (texts w)) is_err accepts in
    refused_reply bytes keeps honest settings items target f w item e a
    (subst (λ (k : Limits). IsRefused bytes keeps item k (texts w) e) l refusal)

-- an image that is reached, by the values that its request came to
abbrev pub ReachesImage : {S : Type 0} → (S → List ℕ) → (S → Type 0) → Bool → Settings → List (Item S) → List ℕ → Item S → Accepted → Type 0
ReachesImage bytes keeps honest settings items target item x =
    (q : Request) × (p : Picture) × IsPictureOf bytes keeps item p × (x.kind ≡ out_kind_of (kind_of p) (depth_of p) q.quality)
    × ((image : Picture) → IsSentFor (keeps item.source × IsTrue honest) (resolved_image p x.resolved) image →
    Replies bytes keeps honest settings items target (given (given_of item q x p image)))

accepted_reply : {S : Type 0} (bytes : S → List ℕ) (keeps : S → Type 0) (honest : Bool) (settings : Settings) (items : List (Item S))
    (target : List ℕ) (f : String Global) (w : Words)
    (item : Item S) (x : Accepted) → Asks settings items target (Target.Image f w) item →
    Comes bytes keeps item (limits_of settings) (texts w) x
    → ReachesImage bytes keeps honest settings items target item x
accepted_reply bytes keeps honest settings items target f w item x a c = (
  c.request,
  c.picture,
  c.is_picture,
  c.is_kind,
  λ image sent.
      of_image (string_bytes f) (texts w) (given_of item c.request x c.picture image) a.asks a.found
      (record {
        is_picture = c.is_picture;
        says = c.says;
        is_image = c.is_image;
        sent = sent;
        is_canonical = c.is_canonical;
        spelled =
            c.spelled;
      }),
)

-- the words of a request are accepted
pub words_accepted : {S : Type 0} (bytes : S → List ℕ) (keeps : S → Type 0) (honest : Bool) (settings : Settings) (items : List (Item S))
    (target : List ℕ) (f : String Global) (w : Words)
    (item : Item S) (limits : Limits) (x : Accepted) (r : Result Accepted Refusal) → Asks settings items target (Target.Image f w) item →
    limits ≡ limits_of settings
    → r ≡ Ok x → Accepts bytes keeps item limits (texts w) r → ReachesImage bytes keeps honest settings items target item x
words_accepted bytes keeps honest settings items target f w item limits x r a l is_ok accepts =
    let came : Comes bytes keeps item limits (texts w) x = subst (Accepts bytes keeps item limits (texts w)) is_ok accepts in
    accepted_reply bytes keeps honest settings items target f w item x a
    (subst (λ (k : Limits). Comes bytes keeps item k (texts w) x) l came)
