-- What holds of rows goes on to hold, while calls, flights, asks and faults only become more.
use Rattle.std.proofs.Common.{ℕ, List, [], ◌∷◌, Some, None, Ok, Err}
use Rattle.iiif_machine.specs.Scenes.{Scene}
use Rattle.iiif_machine.specs.Plans.{items}
use Rattle.iiif_machine.specs.Types.{Key}
use Rattle.iiif_machine.specs.Tables.{Outcome}
use Rattle.iiif_machine.specs.Rows.{Given, Purpose, ForRequest, ForPart, ForFallback, ForAsk, Caller, CallState, Fresh, Hit, In, Gone}
use Rattle.iiif_machine.specs.Rows.{Call, Lead, Stage, New, Looked, Asking, Fallback, Parts, Ready, Ended, Flight, Ask, RequestInfo, Answer}
use Rattle.iiif_machine.specs.Rows.{Refused, Image, Failed, Progress, Waiting, Answered, Dropped, RequestRow}
use Rattle.iiif_machine.specs.Sound.{Each, Kept, Facts, IsHonest, AreOf, StageIsHonest, FlightIsHonest, StateIsHonest, CallIsHonest}
use Rattle.iiif_machine.specs.Sound.{PurposeIsRight, CallerIsRight, AnswerIsRight, ProgressIsHonest, AskIsHonest}
use Rattle.iiif_machine.proofs.Words.{Later}
use Rattle.iiif_machine.proofs.Lists.{each_as}

pub honest_later : (s : Scene) (old new : List Given) (node : ℕ) (k : Key) (o : Outcome) → Kept old new → IsHonest s old node k o →
    IsHonest s new node k o
honest_later s old new node k (Ok v) kept h = h
honest_later s old new node k (Err f) kept h = (h.0, kept h.0 _ h.1)

pub are_of_later : (old new : List Caller) (node : ℕ) (cs : List ℕ) (ks : List Key) → Kept old new → AreOf old node cs ks →
    AreOf new node cs ks
are_of_later old new node [] [] kept h = tt
are_of_later old new node [] (k ∷ ks) kept h = h
are_of_later old new node (c ∷ cs) [] kept h = h
are_of_later old new node (c ∷ cs) (k ∷ ks) kept h =
    ((h.0.0, kept c h.0.0 h.0.1, h.0.2, h.0.3), are_of_later old new node cs ks kept h.1)

pub stage_later : (s : Scene) (a b : Facts) (l : Lead) (x : Stage) → Later a b → StageIsHonest s a l x → StageIsHonest s b l x
stage_later s a b l New later h = tt
stage_later s a b l Looked later h = tt
stage_later s a b l Asking later h = h
stage_later s a b l (Fallback None) later h = h
stage_later s a b l (Fallback (Some c)) later h = (h.0, are_of_later a.callers b.callers l.node (c ∷ []) (l.key ∷ []) later.callers h.1)
stage_later s a b l (Parts cs) later h = (h.0, h.1, are_of_later a.callers b.callers l.node cs h.0 later.callers h.2)
stage_later s a b l (Ready o p) later h = honest_later s a.given b.given l.node l.key o later.given h
stage_later s a b l (Ended None) later h = tt
stage_later s a b l (Ended (Some o)) later h = honest_later s a.given b.given l.node l.key o later.given h

pub state_later : (s : Scene) (a b : Facts) (who : Caller) (x : CallState) → Later a b → StateIsHonest s a who x → StateIsHonest s b who x
state_later s a b who Fresh later h = tt
state_later s a b who (Hit v) later h = h
state_later s a b who (In f) later h = (h.0, later.leads f h.0 h.1, h.2, h.3, h.4)
state_later s a b who Gone later h = tt

pub purpose_later : (a b : Facts) (who : Caller) (x : Purpose) → Later a b → PurposeIsRight a who x → PurposeIsRight b who x
purpose_later a b who (ForRequest r) later h = tt
purpose_later a b who (ForPart f) later h = (h.0, later.leads f h.0 h.1, h.2)
purpose_later a b who (ForFallback f) later h = (h.0, later.leads f h.0 h.1, h.2, h.3, h.4)
purpose_later a b who (ForAsk n) later h = (h.0, later.asks n h.0 h.1, h.2, h.3)

pub caller_later : (s : Scene) (a b : Facts) (who : Caller) → Later a b → CallerIsRight s a who → CallerIsRight s b who
caller_later s a b who later h = record { fits = h.fits; purpose = purpose_later a b who who.purpose later h.purpose }

pub answer_later : (s : Scene) (old new : List Given) (q : RequestInfo) (x : Answer) → Kept old new → AnswerIsRight s old q x →
    AnswerIsRight s new q x
answer_later s old new q (Refused e) kept h = h
answer_later s old new q (Image i) kept h = h
answer_later s old new q (Failed f) kept h = (h.0, kept h.0 _ h.1)

pub progress_later : (s : Scene) (a b : Facts) (q : RequestInfo) (x : Progress) → Later a b → ProgressIsHonest s a q x →
    ProgressIsHonest s b q x
progress_later s a b q (Waiting r cs) later h =
    (h.0, h.1, h.2, are_of_later a.callers b.callers q.node cs (items s q.name h.0 r) later.callers h.3)
progress_later s a b q (Answered x) later h = answer_later s a.given b.given q x later.given h
progress_later s a b q Dropped later h = tt

pub flights_later : (s : Scene) (a b : Facts) (xs : List Flight) → Later a b → Each (FlightIsHonest s a) xs → Each (FlightIsHonest s b) xs
flights_later s a b xs later = each_as (FlightIsHonest s a) (FlightIsHonest s b) xs
    (λ f h. record { fits = h.fits; stage = stage_later s a b f.lead f.stage later h.stage })

pub calls_later : (s : Scene) (a b : Facts) (xs : List Call) → Later a b → Each (CallIsHonest s a) xs → Each (CallIsHonest s b) xs
calls_later s a b xs later = each_as (CallIsHonest s a) (CallIsHonest s b) xs
    (λ c h. record { caller = caller_later s a b c.caller later h.caller; state = state_later s a b c.caller c.state later h.state })

pub requests_later : (s : Scene) (a b : Facts) (xs : List RequestRow) → Later a b → Each (λ q. ProgressIsHonest s a q.info q.progress) xs →
    Each (λ q. ProgressIsHonest s b q.info q.progress) xs
requests_later s a b xs later =
    each_as (λ q. ProgressIsHonest s a q.info q.progress) (λ q. ProgressIsHonest s b q.info q.progress) xs
    (λ q h. progress_later s a b q.info q.progress later h)

pub asks_later : (s : Scene) (a b : Facts) (xs : List Ask) → Later a b → Each (AskIsHonest s a) xs → Each (AskIsHonest s b) xs
asks_later s a b xs later = each_as (AskIsHonest s a) (AskIsHonest s b) xs
    (λ q h. record {
      fits = h.fits;
      flight = (h.flight.0, later.leads q.flight h.flight.0 h.flight.1, h.flight.2, h.flight.3);
      version =
          h.version;
    })
