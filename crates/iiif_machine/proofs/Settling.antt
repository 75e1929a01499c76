-- After some call has learned, what holds goes on to hold.
use Rattle.std.proofs.Common.{◌≡◌, ℕ, List, [], ◌∷◌, Option, Some, None, Ok, refl, sym, subst, ◌∙◌}
use Rattle.std.specs.Prelude.{slice_get}
use Rattle.std.proofs.lemmas.Option.{same_Some}
use Rattle.iiif_machine.specs.Keys.{name_of}
use Rattle.iiif_machine.specs.Plans.{items, resolved}
use Rattle.iiif_machine.proofs.Lists.{each_of_all, get_map}
use Rattle.iiif_machine.specs.Types.{Resolved, Picture}
use Rattle.iiif_machine.proofs.Words.{SubjectLaws}
use Rattle.iiif_machine.specs.Tables.{Wide, Outcome}
use Rattle.iiif_machine.specs.Rows.{Lead, Stage, New, Looked, Asking, Fallback, Parts, Ready, Ended, RequestInfo, Progress, Waiting}
use Rattle.iiif_machine.specs.Rows.{Answered}
use Rattle.iiif_machine.specs.Rows.{Dropped, RequestRow}
use Rattle.iiif_machine.specs.Worlds.{World, learned, decided, collected, ready_with, resumed_stage, resumed, answered_with}
use Rattle.iiif_machine.specs.Worlds.{progressed, answered, settled}
use Rattle.iiif_machine.specs.Sound.{facts, lead_in, IsHonest, AreOf, StageIsHonest, FlightIsHonest, ProgressIsHonest, IsHonestWorld}
use Rattle.iiif_machine.proofs.Words.{Goes}
use Rattle.iiif_machine.proofs.Words.{Next, Later}
use Rattle.iiif_machine.proofs.Lists.{each_map, map_same, kept_same}
use Rattle.iiif_machine.proofs.Growth.{flights_later, calls_later, requests_later, asks_later}
use Rattle.iiif_machine.proofs.Learning.{learned_honest, gathered, answer_right}

ready_honest : (w : World) (l : Lead) (c : ℕ) (x : Option Outcome) → learned w c ≡ x → IsHonestWorld w → (l.class ≡ Wide) ×
    AreOf (facts w).callers l.node (c ∷ []) (l.key ∷ []) →
    StageIsHonest w.scene (facts w) l (ready_with (Fallback (Some c)) x)
ready_honest w l c None e h are = are
ready_honest w l c (Some o) e h are =
    let who = are.1.0.0 in
    let known : IsHonest w.scene w.given who.node who.key o = learned_honest w c who o h are.1.0.1 e in
    subst (λ q. IsHonest w.scene w.given l.node q o) are.1.0.3 (subst (λ n. IsHonest w.scene w.given n who.key o) are.1.0.2 known)

resumed_honest : (w : World) (l : Lead) (x : Stage) → IsHonestWorld w → StageIsHonest w.scene (facts w) l x →
    StageIsHonest w.scene (facts w) l (resumed_stage w x)
resumed_honest w l New h is = is
resumed_honest w l Looked h is = is
resumed_honest w l Asking h is = is
resumed_honest w l (Fallback None) h is = is
resumed_honest w l (Fallback (Some c)) h is = ready_honest w l c (learned w c) refl h is
resumed_honest w l (Parts cs) h is = is
resumed_honest w l (Ready o p) h is = is
resumed_honest w l (Ended o) h is = is

answered_honest : (w : World) (q : RequestInfo) (r : Resolved) (cs : List ℕ) (x : Option Picture) (y : Option (List Outcome)) →
    SubjectLaws w.scene → IsHonestWorld w →
    w.scene.shows q.name ≡ x → decided w cs ≡ y → ProgressIsHonest w.scene (facts w) q (Waiting r cs) →
    ProgressIsHonest w.scene (facts w) q (answered_with w q r cs x y)
answered_honest w q r cs (Some p) (Some os) laws h shown e is =
    let s = w.scene in
    let same : is.0 ≡ p = same_Some is.0 p (sym is.1 ∙ shown) in
    let solved : resolved s p q.request ≡ Ok r = subst (λ x. resolved s x q.request ≡ Ok r) same is.2 in
    let are : AreOf (facts w).callers q.node cs (items s q.name p r) =
    subst (λ x. AreOf (facts w).callers q.node cs (items s q.name x r)) same is.3 in
    let named = each_of_all (λ k. name_of k ≡ q.name) (items s q.name p r) (laws.items_named q.name p q.request r shown solved) in
    answer_right s w.given q p r (collected os) shown (laws.assembled_is q.name p q.request r shown solved)
    (gathered w q.node q.name cs (items s q.name p r) os h are named e)
answered_honest w q r cs (Some p) None laws h shown e is = is
answered_honest w q r cs None (Some os) laws h shown e is = is
answered_honest w q r cs None None laws h shown e is = is

progressed_honest : (w : World) (q : RequestInfo) (x : Progress) → SubjectLaws w.scene → IsHonestWorld w →
    ProgressIsHonest w.scene (facts w) q x →
    ProgressIsHonest w.scene (facts w) q (progressed w q x)
progressed_honest w q (Waiting r cs) laws h is = answered_honest w q r cs (w.scene.shows q.name) (decided w cs) laws h refl refl is
progressed_honest w q (Answered a) laws h is = is
progressed_honest w q Dropped laws h is = is

pub settled_honest : (w : World) → SubjectLaws w.scene → IsHonestWorld w → IsHonestWorld (settled w)
settled_honest w laws h =
    let v = settled w in
    let s = w.scene in
    let later : Later (facts w) (facts v) = record {
      callers = λ i x h. h;
      leads = kept_same _ _ (map_same lead_in (resumed w) w.flights (λ f. refl));
      asks = λ i x h. h;
      given = λ i x h. h;
    } in
    record {
      nodes = h.nodes;
      flights = flights_later s (facts w) (facts v) v.flights later
          (each_map (FlightIsHonest s (facts w)) (FlightIsHonest s (facts w)) (resumed w) w.flights
          (λ f is. record { fits = is.fits; stage = resumed_honest w f.lead f.stage h is.stage }) h.flights);
      calls = calls_later s (facts w) (facts v) w.calls later h.calls;
      asks = asks_later s (facts w) (facts v) w.asks later h.asks;
      replies = h.replies;
      requests = requests_later s (facts w) (facts v) v.requests later
          (each_map (λ (q : RequestRow). ProgressIsHonest s (facts w) q.info q.progress)
          (λ (q : RequestRow). ProgressIsHonest s (facts w) q.info q.progress) (answered w) w.requests
          (λ q is. progressed_honest w q.info q.progress laws h is) h.requests);
    }

pub follows_by : (w : World) {v : World} → v.scene ≡ w.scene → v.given ≡ w.given → v.requests ≡ w.requests → Goes w v
follows_by w {v} a b c = record {
  scene = a;
  given = kept_same w.given v.given b;
  answers = λ i q x h.
      subst (λ rs. slice_get rs i ≡ Some (record { info = q; progress = Answered x })) (sym c) h;
}

pub next_by : (w : World) {v : World} → v.scene ≡ w.scene → v.given ≡ w.given → v.requests ≡ w.requests → IsHonestWorld v → Next w v
next_by w a b c h = record { follows = follows_by w a b c; honest = h }

pub next_settled : (w u : World) → u.scene ≡ w.scene → u.given ≡ w.given → u.requests ≡ w.requests → IsHonestWorld (settled u) →
    Next w (settled u)
next_settled w u a b c h = record {
  follows = record {
    scene = a;
    given = kept_same w.given u.given b;
    answers = λ i q x at. get_map (answered u) u.requests i (record { info = q; progress = Answered x })
        (subst (λ rs. slice_get rs i ≡ Some (record { info = q; progress = Answered x })) (sym c) at);
  };
  honest = h;
}
