-- Only the failing read of a source gives a fault.
use Rattle.std.proofs.Common.{◌≡◌, [], ◌∷◌, Bool, true, false, Option, Some, None, refl, ◌∙◌}
use Rattle.std.specs.Prelude.{◌||◌}
use Rattle.iiif_machine.specs.Worlds.{World, ◌>>=◌}
use Rattle.iiif_machine.specs.Steps.{Event, Want, Enter, Again, AskPeer, Serve, Take, Lose, GoLocal, Load, SourceFault, Land, Evict, Stop}
use Rattle.iiif_machine.specs.Steps.{step, run}
use Rattle.iiif_machine.specs.declared.events.Event.TheVariants as event
use Rattle.iiif_machine.specs.Promises.{After, fails_read, reads_fail, OnlySourcesGive}
use Rattle.iiif_machine.proofs.Effects.{Gives, HasEffect}
use Rattle.iiif_machine.proofs.EventEffects.{step_effect}

abbrev Same : World → World → Type 0
Same w v = v.given ≡ w.given

-- what an event gives, which is no failing read, is nothing
none_given : (w v : World) (e : Event) → fails_read e ≡ false → Gives w v.given e → Same w v
none_given w v (SourceFault f x) none h = absurd cc
none_given w v (Want i name q) none h = h
none_given w v (Enter c) none h = h
none_given w v (Again f) none h = h
none_given w v (AskPeer f) none h = h
none_given w v (Serve a) none h = h
none_given w v (event.Reply c) none h = h
none_given w v (Take f r) none h = h
none_given w v (Lose f) none h = h
none_given w v (GoLocal f) none h = h
none_given w v (Load f) none h = h
none_given w v (Land f kept) none h = h
none_given w v (Evict i keys) none h = h
none_given w v (Stop i) none h = h

after_more : (u v : World) (x : Option World) → Same u v → After (Same v) x → After (Same u) x
after_more u v None a h = tt
after_more u v (Some w) a h = h ∙ a

after_step : (u : World) (e : Event) (x : Option World) (f : World → Option World) → fails_read e ≡ false → After (HasEffect u e) x →
    ((v : World) → After (Same v) (f v)) → After (Same u) (x >>= f)
after_step u e None f none h g = tt
after_step u e (Some v) f none h g = after_more u v (f v) (none_given u v e none h.given) (g v)

pub neither : (a b : Bool) → (a || b) ≡ false → (a ≡ false) × (b ≡ false)
neither true b h = absurd cc
neither false b h = (refl, h)

pub only_sources_give : OnlySourcesGive
unfolding run
only_sources_give w [] none = refl
only_sources_give w (e ∷ es) none =
    let both = neither (fails_read e) (reads_fail es) none in
    after_step w e (step w e) (λ v. run v es) both.0 (step_effect w e) (λ v. only_sources_give v es both.1)
