-- The outcome of one event.
use Rattle.std.proofs.Common.{◌≡◌, inl, inr, ◌++◌, Bool, true, false, ℕ, List, [], ◌∷◌, Some, None, codes, length, refl}
use Rattle.iiif_machine.specs.Steps.{step}
use Rattle.iiif_machine.specs.Worlds.{World}
use Rattle.iiif_machine.specs.declared.events.Event.{Event}
use Rattle.iiif_machine.specs.declared.events.WorldFault.{WorldFault}
use Rattle.iiif_machine.specs.declared.events.WorldFault.TheVariants.{NotNow}
use Rattle.iiif_world.proofs.Run.{one_run}
use Rattle.iiif_event_list.specs.Texts.{outcome_text, said_text}
use Rattle.iiif_event_list.specs.Replays.{IsOutcome}

-- an outcome, with the events that were done
abbrev pub HasOutcome : ℕ → List ℕ → World → Event → Bool → World → List ℕ → Type 0
HasOutcome number line before e allowed after text = (done : List Event) × IsOutcome number line before e allowed done after text

pub done_alone : (number : ℕ) (line : List ℕ) (w v : World) (e : Event) (allowed : Bool) (text : List ℕ) → step w e ≡ Some v →
    allowed ≡ true → text ≡ outcome_text number line (codes "done" ++ said_text (length w.flights) e v) →
    HasOutcome number line w e allowed v text
done_alone number line w v e allowed text next fine is = (e ∷ [], inl (fine, refl, one_run w v e next, is))

pub not_done_alone : (number : ℕ) (line : List ℕ) (w v : World) (e : Event) (fault : WorldFault) (allowed : Bool) (text : List ℕ) →
    (fault ≡ NotNow → step w e ≡ None) → v ≡ w → fault ≡ NotNow → allowed ≡ false → text ≡ outcome_text number line (codes "not now") →
    HasOutcome number line w e allowed v text
not_done_alone number line w v e fault allowed text none same now refused is = ([], inr (refused, refl, none now, same, is))
