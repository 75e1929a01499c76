-- What a request comes to.
use Rattle.std.proofs.Common.{◌≡◌, ℕ, List, [], ◌∷◌, ◌++◌, map, length, Some, Result, Ok, Err, refl, sym, ap, subst, ◌∙◌}
use Rattle.std.specs.Prelude.{slice_get}
use Rattle.iiif_pixel.specs.Geometry.{channels_of}
use Rattle.iiif_pixel.specs.Picture.{Picture, dim_of}
use Rattle.iiif_pixel.specs.declared.geometry.Dim.{Dim}
use Rattle.iiif_pixel.specs.declared.geometry.Kind.{Kind}
use Rattle.iiif_canonical.specs.Resolution.{IsResolved, resolved_of}
use Rattle.iiif_planner.specs.Items.{HasItems}
use Rattle.iiif_planner.specs.declared.plans.Plan.{Plan}
use Rattle.iiif_machine.specs.Scenes.{Scene, IsProper}
use Rattle.iiif_machine.specs.Plans.{kind_of, resolved, items, keys_in}
use Rattle.iiif_machine.proofs.Assembling.{plans_have_items}
use Rattle.iiif_machine.proofs.Plans.{kind_is}
use Rattle.iiif_machine.specs.Types.{Request, Refusal, Resolved}
use Rattle.iiif_machine.specs.declared.keys.Key.{Key}
use Rattle.iiif_machine.specs.Rows.{Node}
use Rattle.iiif_machine.specs.Steps.{after_want, step}
use Rattle.iiif_machine.specs.Worlds.{World, version_shown, speaker, call_for, fresh, numbers, with_request}
use Rattle.iiif_machine.specs.declared.events.Event.TheVariants.{Want}
use Rattle.iiif_machine.specs.declared.rows.Answer.TheVariants.{Refused}
use Rattle.iiif_machine.specs.declared.rows.Call.{Call}
use Rattle.iiif_machine.specs.declared.rows.Progress.{Progress}
use Rattle.iiif_machine.specs.declared.rows.Progress.TheVariants.{Waiting, Answered}
use Rattle.iiif_machine.specs.declared.rows.Purpose.TheVariants.{ForRequest}
use Rattle.iiif_machine.specs.declared.rows.RequestInfo.{RequestInfo}
use Rattle.iiif_world.proofs.Meant.{resolves}
use Rattle.iiif_world.proofs.Stepped.{want_is}

-- what the planner asks for
pub resolves_at : (s : Scene) (p : Picture) (q : Request) (r : Resolved) (d : Dim) → d ≡ dim_of p → resolved s p q ≡ Ok r →
    IsResolved d (kind_of p) s.limits r
resolves_at s p q r d e h = subst (λ (x : Dim). IsResolved x (kind_of p) s.limits r) (sym e) (resolves s p q r h)

-- what it makes
pub planned : (s : Scene) (name : List ℕ) (p : Picture) (r : Resolved) (plan : Plan) (d : Dim) (k : Kind) → IsProper s →
    s.shows name ≡ Some p → d ≡ dim_of p → k ≡ kind_of p →
    HasItems name s.edge d (channels_of k) s.room r plan → keys_in plan ≡ items s name p r
planned s name p r plan d k proper shown hd hk h =
    let channels : channels_of k ≡ p.channels = ap channels_of hk ∙ sym (kind_is p (proper.sources name p shown).whole) in
    sym (plans_have_items s name p r plan
    (subst (λ (n : ℕ). HasItems name s.edge (dim_of p) n s.room r plan) channels
    (subst (λ (x : Dim). HasItems name s.edge x (channels_of k) s.room r plan) hd h)))

pub accepted_done : (w : World) (q : RequestInfo) (n : Node) (p : Picture) (r : Resolved) (ks : List Key) (cs : List Call) (ns : List ℕ)
    (x : Progress) →
    slice_get w.nodes q.node ≡ Some n →
    w.scene.shows q.name ≡ Some p → speaker n (version_shown p) ≡ Some n → resolved w.scene p q.request ≡ Ok r →
    ks ≡ items w.scene q.name p r → ns ≡ numbers (length w.calls) ks →
    cs ≡ map fresh (map (call_for q.node n (ForRequest (length w.requests))) ks) → x ≡ Waiting r ns →
    step w (Want q.node q.name q.request) ≡ Some (record (with_request w q x) { calls = w.calls ++ cs })
accepted_done w q n p r ks cs ns progress there shown speaks solved hk hn hc hp =
    want_is w q.node q.name q.request n p there shown speaks
    ∙ ap (λ (x : Result Resolved Refusal). Some (after_want w n p q x)) solved
    ∙ ap (λ (x : List Key). Some (record (with_request w q (Waiting r (numbers (length w.calls) x)))
    { calls = w.calls ++ map fresh (map (call_for q.node n (ForRequest (length w.requests))) x) })) (sym hk)
    ∙ ap (λ (x : List ℕ). Some (record (with_request w q (Waiting r x))
    { calls = w.calls ++ map fresh (map (call_for q.node n (ForRequest (length w.requests))) ks) })) (sym hn)
    ∙ ap (λ (x : List Call). Some (record (with_request w q (Waiting r ns)) { calls = w.calls ++ x })) (sym hc)
    ∙ ap (λ (x : Progress). Some (record (with_request w q x) { calls = w.calls ++ cs })) (sym hp)

append_nil : (xs : List Call) → xs ≡ xs ++ []
append_nil [] = refl
append_nil (x ∷ xs) = ap (λ (l : List Call). x ∷ l) (append_nil xs)

pub refused_done : (w : World) (q : RequestInfo) (n : Node) (p : Picture) (e : Refusal) (name : List ℕ) (cs : List Call) → q.name ≡ name →
    slice_get w.nodes q.node ≡ Some n →
    w.scene.shows name ≡ Some p → speaker n (version_shown p) ≡ Some n → resolved w.scene p q.request ≡ Err e → cs ≡ [] →
    step w (Want q.node name q.request) ≡ Some (record (with_request w q (Answered (Refused e))) { calls = w.calls ++ cs })
refused_done w q n p e name cs same there shown speaks solved none =
    ap (λ (x : List ℕ). step w (Want q.node x q.request)) (sym same)
    ∙ want_is w q.node q.name q.request n p there (ap w.scene.shows same ∙ shown) speaks
    ∙ ap (λ (x : Result Resolved Refusal). Some (after_want w n p q x)) solved
    ∙ ap (λ (x : List Call). Some (record (with_request w q (Answered (Refused e))) { calls = x }))
    (append_nil w.calls ∙ ap (λ (x : List Call). w.calls ++ x) (sym none))

-- what resolving answers
pub resolves_to : (s : Scene) (p : Picture) (q : Request) (x : Result Resolved Refusal) (d : Dim) (k : Kind) → d ≡ dim_of p →
    k ≡ kind_of p → x ≡ resolved_of q d k s.limits →
    resolved s p q ≡ x
unfolding resolved
resolves_to s p q x d k hd hk is =
    sym (is ∙ ap (λ (y : Dim). resolved_of q y k s.limits) hd ∙ ap (λ (y : Kind). resolved_of q (dim_of p) y s.limits) hk)
