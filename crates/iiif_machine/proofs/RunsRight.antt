-- The headline.
use Rattle.std.proofs.Common.{◌≡◌, List, [], ◌∷◌, ◌++◌, Some, sym, subst, ◌∙◌}
use Rattle.std.proofs.lemmas.Option.{same_Some}
use Rattle.iiif_machine.specs.Scenes.{IsProper}
use Rattle.iiif_machine.specs.Worlds.{World}
use Rattle.iiif_machine.specs.Steps.{Event, step, run}
use Rattle.iiif_machine.specs.Sound.{IsSound}
use Rattle.iiif_machine.specs.Promises.{After, Follows, RefusedNow}
use Rattle.iiif_machine.specs.Origins.{ReadyHasOrigin}
use Rattle.iiif_machine.specs.Frames.{LandsInPlace, AsksItsOwner, CallHasOrigin, CallsStay, RequestsStay, AnswerHasOrigin, IsSettled}
use Rattle.iiif_machine.specs.Frames.{KeepsOthers}
use Rattle.iiif_machine.specs.Headline.{AtEach, StaysFrom, EachRunIsRight}
use Rattle.iiif_machine.proofs.Learning.{bind_inv}
use Rattle.iiif_machine.proofs.Promised.{each_step, each_run_follows, answers_are_right, values_are_meanings}
use Rattle.iiif_machine.proofs.Promised.{canonical_forms_agree, refused_at_once}
use Rattle.iiif_machine.proofs.Origins.{flights_become_ready, events_give}
use Rattle.iiif_machine.proofs.Waiting.{waits_fall, none_waits_for_itself}
use Rattle.iiif_machine.proofs.Frames.{lands_by, asks_owner, calls_have_origins, answers_have_origins}
use Rattle.iiif_machine.proofs.StayingBy.{each_call_stays_by, each_request_stays_by}
use Rattle.iiif_machine.proofs.Others.{each_keeps_others}
use Rattle.iiif_machine.proofs.Due.{each_stays_settled}

abbrev Goes : World → World → Type 0
Goes w v = Follows w v × IsSound v

-- what holds of each event of a sound world, and of the next world, holds of each of a list
at_each : (Q : World → Type 0) (P : World → Event → World → Type 0) →
    ((w v : World) (e : Event) → IsProper w.scene → IsSound w → Q w → step w e ≡ Some v → P w e v × Q v) →
    (w : World) (es : List Event) → IsProper w.scene → IsSound w → Q w → AtEach P w es
at_each Q P h w [] proper sound q = tt
at_each Q P h w (e ∷ es) proper sound q = λ u is.
    let next : Goes w u = subst (After (Goes w)) is (each_step w e proper sound) in
    let here = h w u e proper sound q is in
    (here.0, at_each Q P h u es (subst IsProper (sym next.0.scene) proper) next.1 here.1)

always : (P : World → Event → World → Type 0) →
    ((w v : World) (e : Event) → IsProper w.scene → IsSound w → step w e ≡ Some v → P w e v) →
    (w : World) (es : List Event) → IsProper w.scene → IsSound w → AtEach P w es
always P h w es proper sound = at_each (λ _. Unit {0}) P (λ x y e p s _ is. (h x y e p s is, tt)) w es proper sound tt

-- the rest of a list goes on from where its beginning ended
run_rest : (w u v : World) (past rest : List Event) → run w (past ++ rest) ≡ Some v → run w past ≡ Some u → run u rest ≡ Some v
unfolding run
run_rest w u v [] rest h first = subst (λ z. run z rest ≡ Some v) (same_Some w u first) h
run_rest w u v (e ∷ past) rest h first =
    let whole = bind_inv (step w e) (λ z. run z (past ++ rest)) v h in
    let front = bind_inv (step w e) (λ z. run z past) u first in
    let same : whole.0 ≡ front.0 = same_Some whole.0 front.0 (sym whole.1 ∙ front.1) in
    run_rest front.0 u v past rest (subst (λ z. run z (past ++ rest) ≡ Some v) same whole.2) front.2

stays_from : (w v : World) (es : List Event) → IsProper w.scene → IsSound w → run w es ≡ Some v → StaysFrom w es v
stays_from w v es proper sound is past rest u split first =
    let mid : Goes w u = subst (After (Goes w)) first (each_run_follows w past proper sound) in
    let then : run u rest ≡ Some v = run_rest w u v past rest (subst (λ xs. run w xs ≡ Some v) split is) first in
    let end : Goes u v = subst (After (Goes u)) then (each_run_follows u rest (subst IsProper (sym mid.0.scene) proper) mid.1) in
    end.0

pub each_run_is_right : EachRunIsRight
each_run_is_right w v es proper sound is =
    let after : Goes w v = subst (After (Goes w)) is (each_run_follows w es proper sound) in
    let values = values_are_meanings v after.1 in
    record {
      answers = answers_are_right v after.1;
      refused = always RefusedNow (λ x y e p s h. refused_at_once x y e p h) w es proper sound;
      answered = always AnswerHasOrigin (λ x y e p s h. answers_have_origins x y e h) w es proper sound;
      canonical = canonical_forms_agree v (subst IsProper (sym after.0.scene) proper) after.1;
      stays = stays_from w v es proper sound is;
      kept = values.0;
      known = values.1;
      replied = values.2;
      given = events_give w v es is;
      alone = after.1.apart.apart;
      ready = always ReadyHasOrigin (λ x y e p s h. flights_become_ready x y e h) w es proper sound;
      lands = always LandsInPlace (λ x y e p s h. lands_by x y e h) w es proper sound;
      asks = always AsksItsOwner (λ x y e p s h. asks_owner x y e s.placed h) w es proper sound;
      waits = waits_fall v after.1;
      circle = none_waits_for_itself v after.1;
      calls = always CallHasOrigin (λ x y e p s h. calls_have_origins x y e s.placed h) w es proper sound;
      entered = always CallsStay (λ x y e p s h. each_call_stays_by x y e h) w es proper sound;
      waiting = always RequestsStay (λ x y e p s h. each_request_stays_by x y e h) w es proper sound;
      others = λ due. at_each IsSettled KeepsOthers
          (λ x y e p s d h. (each_keeps_others x y e s d h, each_stays_settled x y e p s d h)) w es proper sound due;
    }
