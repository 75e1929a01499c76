-- The promises.
use Rattle.std.proofs.Common.{◌≡◌, ℕ, Bool, true, false, if◌then◌else◌, List, [], ◌∷◌, ◌++◌, Option, Some, None, Result, Ok, Err, refl}
use Rattle.std.proofs.Common.{sym, ap, subst, ◌∙◌, ⊎_elim}
use Rattle.std.specs.Prelude.{slice_get, length}
use Rattle.std.proofs.lemmas.Option.{none-some, same_Some}
use Rattle.iiif_tables.specs.Flights as tables
use Rattle.iiif_machine.specs.Scenes.{Scene}
use Rattle.iiif_machine.specs.Keys.{is_tile}
use Rattle.iiif_machine.specs.Plans.{kind_of, resolved}
use Rattle.iiif_machine.specs.Images.{image}
use Rattle.iiif_machine.specs.Types.{Key, Request, Refusal, Resolved, Picture}
use Rattle.iiif_machine.specs.Tables.{Class, Table, Holds, IsOpen, Lists}
use Rattle.iiif_machine.specs.Rows.{Node, RequestInfo, Refused, Answered}
use Rattle.iiif_machine.specs.Worlds.{World, ◌>>=◌, table_at}
use Rattle.iiif_machine.specs.Steps.{Event, Want, after_want, step, run}
use Rattle.iiif_machine.specs.Sound.{IsApart, IsListed, AwaitsItsOwn, NodeIsHonest, TableIsHonest, caller_of}
use Rattle.iiif_machine.specs.Promises.{Follows, After}
use Rattle.iiif_machine.proofs.Words.{SubjectLaws, Next, Stays}
use Rattle.iiif_machine.specs.Worlds.{new_world, version_shown, speaker}
use Rattle.iiif_machine.specs.Scenes.{IsProper}
use Rattle.iiif_machine.specs.Sound.{IsSound}
use Rattle.iiif_machine.specs.Promises.{IsNew, RefusedAtOnce, EachStep, EachRun, EachRunFollows, AnswersAreRight, ValuesAreMeanings}
use Rattle.iiif_machine.specs.Promises.{NoFaultNoFailure, CanonicalFormsAgree}
use Rattle.iiif_canonical.specs.Images as images
use Rattle.iiif_canonical.proofs.SameImages.{image_canonical}
use Rattle.iiif_machine.proofs.Plans.{kind_is}
use Rattle.iiif_machine.proofs.Lists.{get_map}
use Rattle.iiif_machine.proofs.Lists.{each_nil, get_end}
use Rattle.iiif_machine.proofs.Learning.{bind_inv, learned_honest}
use Rattle.iiif_machine.proofs.Steps.{step_kept}
use Rattle.iiif_machine.proofs.Apart.{step_apart}
use Rattle.iiif_machine.proofs.Placed.{step_placed}
use Rattle.iiif_machine.proofs.Listed.{step_listed}
use Rattle.iiif_machine.proofs.Effects.{HasEffect}
use Rattle.iiif_machine.proofs.EventEffects.{step_effect}
use Rattle.iiif_machine.proofs.Origins.{stays_own}
use Rattle.iiif_machine.proofs.Subjects.{subject_laws}
use Rattle.iiif_machine.proofs.Opened.{table_laws}

abbrev KeepsOn : World → World → Type 0
KeepsOn w v = Follows w v × IsSound v

join : (w : World) (e : Event) (x : Option World) → AwaitsItsOwn w → After (Next w) x → After IsApart x → After IsListed x →
    After (Stays w) x → After (HasEffect w e) x →
    After (KeepsOn w) x
join w e None own a b c d f = tt
join w e (Some v) own a b c d f = (
  record { scene = a.follows.scene; cards = d.cards; rows = f.rows; given = a.follows.given; answers = a.follows.answers; ended = d.ended },
  record { honest = a.honest; apart = b; listed = c; placed = d.placed; own = stays_own w v e f own },
)

pub each_step : EachStep
each_step w e proper h = join w e (step w e) h.own (step_kept w e (subject_laws w.scene proper) table_laws h.honest)
    (step_apart w e (subject_laws w.scene proper) table_laws h.apart)
    (step_listed w e h.apart h.listed) (step_placed w e h.placed) (step_effect w e)

pub follows_itself : (w : World) → Follows w w
follows_itself w = record {
  scene = refl;
  cards = refl;
  rows =
      record { infos = λ i x at. at; callers = λ i x at. at; leads = λ i x at. at; asks = λ i x at. at; replies = λ i x at. at };
  given =
      λ i g at. at;
  answers = λ i q a at. at;
  ended = λ f l o at. at;
}

pub follows_further : (w v u : World) → Follows w v → Follows v u → Follows w u
follows_further w v u first second = record {
  scene = second.scene ∙ first.scene;
  cards = second.cards ∙ first.cards;
  rows = record {
    infos = λ i x at. second.rows.infos i x (first.rows.infos i x at);
    callers = λ i x at. second.rows.callers i x (first.rows.callers i x at);
    leads = λ i x at. second.rows.leads i x (first.rows.leads i x at);
    asks = λ i x at. second.rows.asks i x (first.rows.asks i x at);
    replies = λ i x at. second.rows.replies i x (first.rows.replies i x at);
  };
  given = λ i g at. second.given i g (first.given i g at);
  answers = λ i q a at. second.answers i q a (first.answers i q a at);
  ended = λ f l o at. second.ended f l o (first.ended f l o at);
}

after_step : (w : World) (x : Option World) (f : World → Option World) → After (KeepsOn w) x →
    ((v : World) → Follows w v → IsSound v → After (KeepsOn w) (f v)) → After (KeepsOn w) (x >>= f)
after_step w None f h g = tt
after_step w (Some v) f h g = g v h.0 h.1

-- what goes on from a world that went on
further : (w v : World) (x : Option World) → Follows w v → After (KeepsOn v) x → After (KeepsOn w) x
further w v None first h = tt
further w v (Some u) first h = (follows_further w v u first h.0, h.1)

pub each_run_follows : EachRunFollows
unfolding run
each_run_follows w [] proper h = (follows_itself w, h)
each_run_follows w (e ∷ es) proper h = after_step w (step w e) (λ v. run v es) (each_step w e proper h)
    (λ v next is. further w v (run v es) next (each_run_follows v es (subst IsProper (sym next.scene) proper) is))

sound_after : (w : World) (x : Option World) → After (KeepsOn w) x → After IsSound x
sound_after w None h = tt
sound_after w (Some v) h = h.1

empty_holds : (s : Scene) (t : Table) (l r : ℕ) → t ≡ tables.empty_table l r → TableIsHonest s t
unfolding Holds
empty_holds s t l r e = subst (TableIsHonest s) (sym e) (λ k v has. ⊎_elim
    (λ (a : Lists [] k v). absurd (none-some _ a.2))
    (λ (a : Lists [] k v). absurd (none-some _ a.2)) has)

new_node : (s : Scene) (n : Node) → IsNew n → NodeIsHonest s n
new_node s n h = record { tiles = empty_holds s n.tiles h.0.0 h.0.1 h.0.2; sums = empty_holds s n.sums h.1.0 h.1.1 h.1.2 }

table_open : (t : Table) (l r : ℕ) (k : Key) (c : Class) (m : ℕ) → t ≡ tables.empty_table l r → IsOpen t k c m → ⊥
unfolding IsOpen
table_open t l r k c m e o = none-some o.0 (ap (λ (u : Table). u.flights c k) (sym e) ∙ o.1)

open_by : (n : Node) (b : Bool) (k : Key) (c : Class) (m : ℕ) → IsNew n → IsOpen (if b then n.tiles else n.sums) k c m → ⊥
open_by n true k c m h o = table_open n.tiles h.0.0 h.0.1 k c m h.0.2 o
open_by n false k c m h o = table_open n.sums h.1.0 h.1.1 k c m h.1.2 o

new_open : (n : Node) (k : Key) (c : Class) (m : ℕ) → IsNew n → IsOpen (table_at n k) k c m → ⊥
new_open n k c m h o = open_by n (is_tile k) k c m h o

pub each_run : EachRun
each_run s nodes es proper new named =
    let w = new_world s nodes in
    sound_after w (run w es) (each_run_follows w es proper (record {
      honest = record {
        nodes = λ i n at. new_node s n (new i n at);
        flights = each_nil _;
        calls = each_nil _;
        asks = each_nil _;
        replies = each_nil _;
        requests = each_nil _;
      };
      apart = record { registered = λ f x at o. absurd (none-some x at); apart = λ f g x y at there o p same. absurd (none-some x at) };
      listed = record { all = λ i n k c m at o. absurd (new_open n k c m (new i n at) o) };
      placed = record { rings = named; callers = each_nil _; leads = each_nil _; asks = each_nil _ };
      own = record { flights = λ f x at. absurd (none-some x at); requests = λ r x at. absurd (none-some x at) };
    }))

pub answers_are_right : AnswersAreRight
answers_are_right w h i q a at = h.honest.requests i _ at

pub values_are_meanings : ValuesAreMeanings
values_are_meanings w h = (
  λ i n k v at. ((h.honest.nodes i n at).tiles k v, (h.honest.nodes i n at).sums k v),
  λ c call o at knows. learned_honest w c call.caller o h.honest (get_map caller_of w.calls c call at) knows,
  λ i r v at is. h.honest.replies i r at v is,
)

pub no_fault_no_failure : NoFaultNoFailure
no_fault_no_failure w h none i q f at =
    let is = h.honest.requests i _ at in
    none-some _ (subst (λ gs. slice_get gs is.0 ≡ Some (record { node = q.node; name = q.name; fault = f })) none is.1)

pub ok_same : (x : Result Picture Refusal) (a b : Picture) → x ≡ Ok a → x ≡ Ok b → a ≡ b
ok_same x a b e f = cc

image_of : (s : Scene) (p o : Picture) (q : Request) (a : Picture) (name : List ℕ) → s.shows name ≡ Some o → s.shows name ≡ Some p →
    image s o q ≡ Ok a → images.image p q s.limits ≡ Ok a
unfolding image
image_of s p o q a name at there is = subst (λ x. images.image x q s.limits ≡ Ok a) (same_Some o p (sym at ∙ there)) is

pub canonical_forms_agree : CanonicalFormsAgree
canonical_forms_agree w proper h i j q r a b p at there name shown form =
    let s = w.scene in
    let first = h.honest.requests i _ at in
    let second = h.honest.requests j _ there in
    let one = image_of s p first.0 q.request a q.name first.1 shown first.2 in
    let two = image_of s p second.0 r.request b r.name second.1 (ap s.shows name ∙ shown) second.2 in
    ok_same (images.image p q.request s.limits) a b one
    (sym (image_canonical p (kind_of p) s.limits q.request r.request (kind_is p (proper.sources q.name p shown).whole) form) ∙ two)

no_image : (x : Result Picture Refusal) (p : Picture) (e : Refusal) → x ≡ Ok p → x ≡ Err e → ⊥
no_image x p e a b = cc

same_refusal : (x : Result Picture Refusal) (a b : Refusal) → x ≡ Err a → x ≡ Err b → a ≡ b
same_refusal x a b e f = cc

refused_by : (w : World) (n : Node) (p : Picture) (q : RequestInfo) (x : Result Resolved Refusal) (e : Refusal) → SubjectLaws w.scene →
    w.scene.shows q.name ≡ Some p →
    resolved w.scene p q.request ≡ x → image w.scene p q.request ≡ Err e →
    slice_get (after_want w n p q x).requests (length w.requests) ≡ Some (record { info = q; progress = Answered (Refused e) })
refused_by w n p q (Err d) e laws shown is h =
    let same = same_refusal (image w.scene p q.request) d e (laws.refused q.name p q.request d shown is) h in
    subst (λ x. slice_get (w.requests ++ record { info = q; progress = Answered (Refused d) } ∷ []) (length w.requests) ≡ Some
    (record { info = q; progress = Answered (Refused x) })) same
    (get_end w.requests (record { info = q; progress = Answered (Refused d) }) [])
refused_by w n p q (Ok r) e laws shown is h = absurd
    (no_image (image w.scene p q.request) _ e (laws.assembled_is q.name p q.request r shown is) h)

pub refused_at_once : RefusedAtOnce
unfolding step
refused_at_once w v x proper is i name q p e same_event shown h =
    let stepped : step w (Want i name q) ≡ Some v = ap (step w) (sym same_event) ∙ is in
    let n = bind_inv (slice_get w.nodes i) _ v stepped in
    let o = bind_inv (w.scene.shows name) _ v n.2 in
    let m = bind_inv (speaker n.0 (version_shown o.0)) _ v o.2 in
    let same : o.0 ≡ p = same_Some o.0 p (sym o.1 ∙ shown) in
    let info : RequestInfo = record { node = i; name = name; request = q } in
    let there : after_want w n.0 p info (resolved w.scene p q) ≡ v = ap (λ x. after_want w n.0 x info (resolved w.scene x q)) (sym same) ∙
    same_Some _ v m.2 in
    subst (λ (x : World). slice_get x.requests (length w.requests) ≡ Some (record { info = info; progress = Answered (Refused e) })) there
    (refused_by w n.0 p info (resolved w.scene p q) e (subject_laws w.scene proper) shown refl h)
