-- An event that is allowed does something, and so may want memory.
use Rattle.std.proofs.Common.{◌≡◌, ℕ, List, inl, inr, Result, Ok, Err, Some, None, sym, ap, ◌∙◌, IfErr}
use Rattle.std.specs.Prelude.{slice_get}
use Rattle.std.proofs.lemmas.Option.{none-some}
use Rattle.iiif_machine.specs.Types.{Request, Picture}
use Rattle.iiif_machine.specs.Rows.{Node}
use Rattle.iiif_machine.specs.Worlds.{World, decided, speaker, version_shown}
use Rattle.iiif_machine.specs.Steps.{step}
use Rattle.iiif_machine.specs.Promises.{IsAllowed}
use Rattle.iiif_machine.specs.declared.events.Event.{Event}
use Rattle.iiif_machine.specs.declared.events.Event.TheVariants.{Want, Load}
use Rattle.iiif_machine.specs.declared.events.WorldFault.{WorldFault}
use Rattle.iiif_machine.specs.declared.events.WorldFault.TheVariants.{NoMemory}
use Rattle.iiif_machine.specs.declared.rows.Stage.TheVariants.{Looked, Parts}
use Rattle.iiif_machine.proofs.Allowed.{allowed_goes}
use Rattle.iiif_world.specs.Code.{IsSoundWorld}
use Rattle.iiif_machine.specs.Heard.{heard_all}
use Rattle.iiif_world.specs.Loads.{IsLocalAt}
use Rattle.iiif_machine.specs.declared.hearing.Heard.TheVariants as code
use Rattle.iiif_world.proofs.Meant.{heard_value}
use Rattle.iiif_world.proofs.Stepped.{want_is}

allowed : (w : World) (e : Event) → IsSoundWorld w → IsAllowed w e → ¬ (step w e ≡ None)
allowed w e h a none =
    let r = allowed_goes w e h.sound a in
    none-some r.0 (sym none ∙ r.1)

-- what an error says of an event that the table of events allows
pub wants_memory : {A : Type 0} (w : World) (e : Event) (r : Result A WorldFault) → IsSoundWorld w → IsAllowed w e →
    IfErr r (λ f. f ≡ NoMemory → ¬ (step w e ≡ None))
wants_memory w e (Ok x) h a = tt
wants_memory w e (Err f) h a = λ _. allowed w e h a

-- a local flight that has looked, or of whose parts a value was heard
pub looked_allowed : (w : World) (f : ℕ) → IsLocalAt w f Looked → IsAllowed w (Load f)
looked_allowed w f a = inl (a.lead, a.flight, a.own)

pub merge_allowed : (w : World) (f : ℕ) (cs : List ℕ) → IsLocalAt w f (Parts cs) → code.Value ≡ heard_all (decided w cs) →
    IsAllowed w (Load f)
merge_allowed w f cs a heard =
    let k = heard_value (decided w cs) (sym heard) in
    inr (cs, (a.lead, a.flight, a.own), (k.0, k.2))

-- a request for a picture of a version that the node speaks
pub want_allowed : (w : World) (i : ℕ) (name : List ℕ) (q : Request) (n : Node) (p : Picture) (x : ℕ) → slice_get w.nodes i ≡ Some n →
    w.scene.shows name ≡ Some p →
    x ≡ version_shown p → speaker n x ≡ Some n → ¬ (step w (Want i name q) ≡ None)
want_allowed w i name q n p x there shown is speaks none =
    none-some _ (sym none ∙ want_is w i name q n p there shown (ap (speaker n) (sym is) ∙ speaks))
