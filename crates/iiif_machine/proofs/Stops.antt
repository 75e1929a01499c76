-- A node stops.
use Rattle.std.proofs.Common.{◌≡◌, ℕ, Bool, true, false, Some, refl, ap, ◌∙◌, if◌then◌else◌}
use Rattle.std.specs.Prelude.{◌==◌}
use Rattle.iiif_machine.specs.Scenes.{Scene}
use Rattle.iiif_machine.proofs.Lists.{get_map}
use Rattle.iiif_machine.proofs.Words.{TableLaws}
use Rattle.iiif_machine.specs.Rows.{Node, Gone, Call, Lead, Stage, New, Looked, Asking, Fallback, Parts, Ready, Ended, Flight, RequestInfo}
use Rattle.iiif_machine.specs.Rows.{Answer, Progress, Waiting, Answered, Dropped, RequestRow}
use Rattle.iiif_machine.specs.Worlds.{World}
use Rattle.iiif_machine.specs.Steps.{stage_stopped, flight_stopped, call_stopped, progress_stopped, request_stopped, after_stop}
use Rattle.iiif_machine.specs.Sound.{Facts, facts, caller_of, lead_in, StageIsHonest, FlightIsHonest, CallIsHonest, ProgressIsHonest}
use Rattle.iiif_machine.specs.Sound.{IsHonestWorld}
use Rattle.iiif_machine.proofs.Words.{Goes}
use Rattle.iiif_machine.proofs.Words.{Later}
use Rattle.iiif_machine.proofs.Lists.{each_map, each_set, map_same, kept_same}
use Rattle.iiif_machine.proofs.Growth.{flights_later, calls_later, requests_later, asks_later}
use Rattle.iiif_machine.proofs.Nodes.{emptied_honest}

ended_is : (s : Scene) (a : Facts) (l : Lead) (x : Stage) → StageIsHonest s a l x → StageIsHonest s a l (stage_stopped x)
ended_is s a l (Ended o) h = h
ended_is s a l New h = tt
ended_is s a l Looked h = tt
ended_is s a l Asking h = tt
ended_is s a l (Fallback c) h = tt
ended_is s a l (Parts cs) h = tt
ended_is s a l (Ready o p) h = tt

halted_by : (s : Scene) (a : Facts) (fl : Flight) (b : Bool) → FlightIsHonest s a fl →
    FlightIsHonest s a (if b then record { lead = fl.lead; stage = stage_stopped fl.stage } else fl)
halted_by s a fl true h = record { fits = h.fits; stage = ended_is s a fl.lead fl.stage h.stage }
halted_by s a fl false h = h

pub lead_by : (fl : Flight) (b : Bool) → lead_in (if b then record { lead = fl.lead; stage = stage_stopped fl.stage } else fl) ≡ lead_in fl
lead_by fl true = refl
lead_by fl false = refl

gone_by : (s : Scene) (a : Facts) (c : Call) (b : Bool) → CallIsHonest s a c →
    CallIsHonest s a (if b then record { caller = c.caller; state = Gone } else c)
gone_by s a c true h = record { caller = h.caller; state = tt }
gone_by s a c false h = h

pub caller_by : (c : Call) (b : Bool) → caller_of (if b then record { caller = c.caller; state = Gone } else c) ≡ caller_of c
caller_by c true = refl
caller_by c false = refl

dropped_is : (s : Scene) (a : Facts) (q : RequestInfo) (x : Progress) → ProgressIsHonest s a q x →
    ProgressIsHonest s a q (progress_stopped x)
dropped_is s a q (Waiting r cs) h = tt
dropped_is s a q (Answered x) h = h
dropped_is s a q Dropped h = h

abbrev RequestIs : Scene → Facts → RequestRow → Type 0
RequestIs s a q = ProgressIsHonest s a q.info q.progress

dropped_by : (s : Scene) (a : Facts) (q : RequestRow) (b : Bool) → RequestIs s a q →
    RequestIs s a (if b then record { info = q.info; progress = progress_stopped q.progress } else q)
dropped_by s a q true h = dropped_is s a q.info q.progress h
dropped_by s a q false h = h

pub stopped_honest : TableLaws → (w : World) (i : ℕ) (n : Node) → IsHonestWorld w → IsHonestWorld (after_stop w i n)
stopped_honest laws w i n h =
    let v = after_stop w i n in
    let s = w.scene in
    let a = facts w in
    let b = facts v in
    let later : Later a b = record {
      callers = kept_same _ _ (map_same caller_of (call_stopped i) w.calls (λ c. caller_by c (c.caller.node == i)));
      leads = kept_same _ _ (map_same lead_in (flight_stopped i) w.flights (λ fl. lead_by fl (fl.lead.node == i)));
      asks = λ i x h. h;
      given = λ i x h. h;
    } in
    record {
      nodes = each_set _ w.nodes i _ h.nodes (emptied_honest laws s n);
      flights = flights_later s a b v.flights later
          (each_map (FlightIsHonest s a) (FlightIsHonest s a) (flight_stopped i) w.flights
          (λ fl is. halted_by s a fl (fl.lead.node == i) is) h.flights);
      calls = calls_later s a b v.calls later (each_map (CallIsHonest s a) (CallIsHonest s a) (call_stopped i) w.calls
          (λ c is. gone_by s a c (c.caller.node == i) is) h.calls);
      asks = asks_later s a b w.asks later h.asks;
      replies = h.replies;
      requests = requests_later s a b v.requests later
          (each_map (RequestIs s a) (RequestIs s a) (request_stopped i) w.requests (λ q is. dropped_by s a q (q.info.node == i) is)
          h.requests);
    }

abbrev row_of : RequestInfo → Answer → RequestRow
row_of q x = record { info = q; progress = Answered x }

kept_by : (q : RequestInfo) (x : Answer) (b : Bool) → (if b then row_of q x else row_of q x) ≡ row_of q x
kept_by q x true = refl
kept_by q x false = refl

pub stopped_follows : (w : World) (i : ℕ) (n : Node) → Goes w (after_stop w i n)
stopped_follows w i n = record {
  scene = refl;
  given = λ j x h. h;
  answers = λ j q x h.
      let row : RequestRow = record { info = q; progress = Answered x } in
      get_map (request_stopped i) w.requests j row h ∙ ap Some (kept_by q x (q.node == i));
}
