-- What a node that stops takes, and an eviction, and what they leave; and when calls know.
use Rattle.std.proofs.Common.{◌≡◌, ℕ, Bool, true, false, Some, None, Option, refl, sym, ap, subst, ◌∙◌, ⊎_elim, if◌then◌else◌}
use Rattle.std.specs.Prelude.{slice_get, slice_set, ◌==◌}
use Rattle.std.proofs.lemmas.Option.{none-some, same_Some}
use Rattle.std.proofs.lemmas.Bool.{eqb-true, eqb-false}
use Rattle.iiif_machine.proofs.Lists.{get_map}
use Rattle.iiif_machine.specs.Tables.{Outcome, emptied}
use Rattle.iiif_machine.specs.Rows.{Node, Caller, Call, Gone, In, Lead, Stage, New, Looked, Asking, Fallback, Parts, Ready, Ended, Flight}
use Rattle.iiif_machine.specs.Rows.{RequestRow}
use Rattle.iiif_machine.specs.Worlds.{World, ◌>>=◌, with_node, outcome_of, known_by, learned}
use Rattle.iiif_machine.specs.Steps.{is_open, stage_stopped, flight_stopped, call_stopped, progress_stopped, request_stopped, after_stop}
use Rattle.iiif_machine.specs.Steps.{step, node_without}
use Rattle.iiif_machine.specs.Promises.{IsAt}
use Rattle.iiif_machine.specs.Leaving.{NodeEnds, OthersStay, StopTakesItsOwn, KnowsAtItsEnd, EvictTakesEntries}
use Rattle.iiif_machine.proofs.Learning.{bind_inv}
use Rattle.iiif_machine.proofs.Registers.{set_found}
use Rattle.iiif_machine.proofs.Apart.{set_there}

-- an open flight ends without an outcome

ends : (s : Stage) → is_open s ≡ true → stage_stopped s ≡ Ended None
ends (Ended o) e = absurd cc
ends New e = refl
ends Looked e = refl
ends Asking e = refl
ends (Fallback c) e = refl
ends (Parts cs) e = refl
ends (Ready o p) e = refl

flight_ends : (i : ℕ) (x : Flight) (b : Bool) → (x.lead.node == i) ≡ b → x.lead.node ≡ i → is_open x.stage ≡ true →
    (if b then record { lead = x.lead; stage = stage_stopped x.stage } else x) ≡ record { lead = x.lead; stage = Ended None }
flight_ends i x true e own is = ap (λ s. record { lead = x.lead; stage = s }) (ends x.stage is)
flight_ends i x false e own is = absurd (eqb-false x.lead.node i e own)

-- what is another node's stays

flight_stays : (i : ℕ) (x : Flight) (b : Bool) → (x.lead.node == i) ≡ b → ¬ (x.lead.node ≡ i) →
    (if b then record { lead = x.lead; stage = stage_stopped x.stage } else x) ≡ x
flight_stays i x true e other = absurd (other (eqb-true x.lead.node i e))
flight_stays i x false e other = refl

call_stays : (i : ℕ) (x : Call) (b : Bool) → (x.caller.node == i) ≡ b → ¬ (x.caller.node ≡ i) →
    (if b then record { caller = x.caller; state = Gone } else x) ≡ x
call_stays i x true e other = absurd (other (eqb-true x.caller.node i e))
call_stays i x false e other = refl

request_stays : (i : ℕ) (x : RequestRow) (b : Bool) → (x.info.node == i) ≡ b → ¬ (x.info.node ≡ i) →
    (if b then record { info = x.info; progress = progress_stopped x.progress } else x) ≡ x
request_stays i x true e other = absurd (other (eqb-true x.info.node i e))
request_stays i x false e other = refl

node_ends : (w : World) (i : ℕ) (n : Node) → slice_get w.nodes i ≡ Some n → NodeEnds i w (after_stop w i n)
unfolding emptied
node_ends w i n at =
    let new : Node = record n { tiles = emptied n.tiles; sums = emptied n.sums } in
    record {
      tables = λ a b old there.
          let same : a ≡ n = same_Some a n (sym old ∙ at) in
          let is : new ≡ b = same_Some new b (sym (set_there w.nodes i n new at) ∙ there) in (
            ap (λ (x : Node). x.tiles) (sym is) ∙ ap (λ (x : Node). emptied x.tiles) (sym same),
            ap (λ (x : Node). x.sums) (sym is) ∙ ap (λ (x : Node). emptied x.sums) (sym same),
          );
      flights = λ f x there own is. get_map (flight_stopped i) w.flights f x there ∙
          ap Some (flight_ends i x (x.lead.node == i) refl own is);
    }

pub others_stay : (w : World) (i : ℕ) (n : Node) → OthersStay i w (after_stop w i n)
others_stay w i n =
    let new : Node = record n { tiles = emptied n.tiles; sums = emptied n.sums } in
    record {
      nodes = λ j m other there.
          ⊎_elim
          (λ (x : (j ≡ i) × (slice_get (slice_set w.nodes i new) j ≡ Some new)). absurd (other x.0))
          (λ (x : slice_get (slice_set w.nodes i new) j ≡ Some m). x)
          (set_found w.nodes i j m new there);
      requests = λ r q other there. get_map (request_stopped i) w.requests r q there ∙
          ap Some (request_stays i q (q.info.node == i) refl other);
      calls = λ c x other there. get_map (call_stopped i) w.calls c x there ∙ ap Some (call_stays i x (x.caller.node == i) refl other);
      flights = λ f x other there. get_map (flight_stopped i) w.flights f x there ∙
          ap Some (flight_stays i x (x.lead.node == i) refl other);
      asks = refl;
      replies = refl;
      given = refl;
    }

pub stop_takes_its_own : StopTakesItsOwn
unfolding step
stop_takes_its_own w v i h =
    let n = bind_inv (slice_get w.nodes i) _ v h in
    let is = same_Some _ v n.2 in
    (subst (NodeEnds i w) is (node_ends w i n.0 n.1), subst (OthersStay i w) is (others_stay w i n.0))

-- Calls

known_at_end : (w : World) (f : ℕ) (l : Lead) (s : Stage) (o : Outcome) → slice_get w.flights f ≡ Some (record { lead = l; stage = s }) →
    outcome_of s ≡ Some o → IsAt w f (Ended (Some o))
known_at_end w f l New o at e = absurd (none-some o e)
known_at_end w f l Looked o at e = absurd (none-some o e)
known_at_end w f l Asking o at e = absurd (none-some o e)
known_at_end w f l (Fallback c) o at e = absurd (none-some o e)
known_at_end w f l (Parts cs) o at e = absurd (none-some o e)
known_at_end w f l (Ready r p) o at e = absurd (none-some o e)
known_at_end w f l (Ended x) o at e = (l, at ∙ ap (λ z. Some (record { lead = l; stage = Ended z })) e)

knows_in : (w : World) (c f : ℕ) (who : Caller) → slice_get w.calls c ≡ Some (record { caller = who; state = In f }) →
    learned w c ≡ known_by w.flights (In f)
knows_in w c f who at = ap (λ (x : Option Call). x >>= (λ call. known_by w.flights call.state)) at

pub knows_at_its_end : KnowsAtItsEnd
knows_at_its_end w c f who o at = (
  λ knows.
      let fl = bind_inv (slice_get w.flights f) (λ (x : Flight). outcome_of x.stage) o (sym (knows_in w c f who at) ∙ knows) in
      known_at_end w f fl.0.lead fl.0.stage o fl.1 fl.2,
  λ is. knows_in w c f who at ∙ ap (λ (x : Option Flight). x >>= (λ (y : Flight). outcome_of y.stage)) is.1,
)

-- Evict

only_node : (w : World) (i : ℕ) (m : Node) → OthersStay i w (with_node w i m) × (w.requests ≡ w.requests) × (w.calls ≡ w.calls) ×
    (w.flights ≡ w.flights)
only_node w i m = (
  record {
    nodes = λ j n other there.
        ⊎_elim
        (λ (x : (j ≡ i) × (slice_get (slice_set w.nodes i m) j ≡ Some m)). absurd (other x.0))
        (λ (x : slice_get (slice_set w.nodes i m) j ≡ Some n). x)
        (set_found w.nodes i j n m there);
    requests = λ r q other there. there;
    calls = λ c x other there. there;
    flights = λ f x other there. there;
    asks = refl;
    replies = refl;
    given = refl;
  },
  refl,
  refl,
  refl,
)

pub evict_takes_entries : EvictTakesEntries
unfolding step
evict_takes_entries w v i keys h =
    let n = bind_inv (slice_get w.nodes i) _ v h in
    subst (λ (x : World). OthersStay i w x × (x.requests ≡ w.requests) × (x.calls ≡ w.calls) × (x.flights ≡ w.flights)) (same_Some _ v n.2)
    (only_node w i (node_without n.0 keys.items))
