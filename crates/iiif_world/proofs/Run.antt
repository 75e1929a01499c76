-- What an event leaves sound.
use Rattle.std.proofs.Common.{◌≡◌, ◌<◌, ◌+◌, ◌++◌, ℕ, List, [], ◌∷◌, length, get_or, take, Option, Some, None, refl, sym, ap, subst, ◌∙◌}
use Rattle.std.specs.Prelude.{slice_get}
use Rattle.std.proofs.lemmas.List.{take_more}
use Rattle.std.proofs.lemmas.Option.{none-some, same_Some}
use Rattle.iiif_machine.specs.Scenes.{IsProper}
use Rattle.iiif_machine.specs.Sound.{IsSound}
use Rattle.iiif_machine.specs.Worlds.{World, ◌>>=◌}
use Rattle.iiif_machine.specs.Steps.{step, run}
use Rattle.iiif_machine.specs.Promises.{After, Follows}
use Rattle.iiif_machine.specs.declared.events.Event.{Event}
use Rattle.iiif_machine.specs.declared.events.WorldFault.{WorldFault}
use Rattle.iiif_machine.specs.declared.events.WorldFault.TheVariants.{NotNow, NoMemory}
use Rattle.iiif_machine.proofs.Promised.{each_step}
use Rattle.iiif_world.specs.Code.{IsSoundWorld}
use Rattle.iiif_world.specs.Stepping.{IsFault, RunsCompose, StopsAt}
use Rattle.iiif_world.proofs.Stepped.{bind_by}

abbrev Goes : World → World → Type 0
Goes w v = Follows w v × IsSound v

pub follows : (w v : World) (e : Event) → IsSoundWorld w → step w e ≡ Some v → Follows w v
follows w v e h is = (subst (After (Goes w)) is (each_step w e h.proper h.sound)).0

pub stays_sound : (w v : World) (e : Event) → IsSoundWorld w → step w e ≡ Some v → IsSoundWorld v
stays_sound w v e h is =
    let r = subst (After (Goes w)) is (each_step w e h.proper h.sound) in
    record { proper = subst IsProper (sym r.0.scene) h.proper; sound = r.1 }

pub same_sound : (w v : World) → v ≡ w → IsSoundWorld w → IsSoundWorld v
same_sound w v is h = subst IsSoundWorld (sym is) h

-- one event more
more_by : (o : Option World) (v u : World) (f g : World → Option World) → ((z : World) → f z ≡ Some v → g z ≡ Some u) → (o >>= f) ≡ Some v →
    (o >>= g) ≡ Some u
more_by None v u f g h is = absurd (none-some v is)
more_by (Some z) v u f g h is = h z is

pub runs_compose : RunsCompose
unfolding run
runs_compose w v u [] fs is next = ap (λ (z : World). run z fs) (same_Some w v is) ∙ next
runs_compose w v u (x ∷ es) fs is next = more_by (step w x) v u (λ z. run z es) (λ z. run z (es ++ fs))
    (λ z h. runs_compose z v u es fs h next) is

pub one_run : (w v : World) (e : Event) → step w e ≡ Some v → run w (e ∷ []) ≡ Some v
unfolding run
one_run w v e is = bind_by (step w e) (λ z. run z []) v is refl

pub run_next : (w v u : World) (es : List Event) (i : ℕ) (e : Event) → i < length es → e ≡ get_or es i e → run w (take i es) ≡ Some v →
    step v e ≡ Some u →
    run w (take (i + 1) es) ≡ Some u
run_next w v u es i e less is before next =
    ap (run w) (take_more es i e less ∙ ap (λ (x : Event). take i es ++ x ∷ []) (sym is)) ∙
    runs_compose w v u (take i es) (e ∷ []) before (one_run v u e next)

why_by : (v : World) (e : Event) (f : WorldFault) → (f ≡ NotNow → step v e ≡ None) → (f ≡ NoMemory → ¬ (step v e ≡ None)) → IsFault v e f
why_by v e NotNow not_now no_memory = not_now refl
why_by v e NoMemory not_now no_memory = no_memory refl

-- an event that does nothing stops the list
pub stops_by : (w v : World) (es : List Event) (i : ℕ) (e : Event) (f : WorldFault) → run w (take i es) ≡ Some v → slice_get es i ≡ Some e →
    (f ≡ NotNow → step v e ≡ None) → (f ≡ NoMemory → ¬ (step v e ≡ None)) → StopsAt w es i f v
stops_by w v es i e f before at not_now no_memory =
    record { event = e; before = before; there = at; why = why_by v e f not_now no_memory }
