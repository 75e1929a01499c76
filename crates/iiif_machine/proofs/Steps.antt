-- Every event keeps what is honest.
use Rattle.std.proofs.Common.{[], ◌∷◌, refl}
use Rattle.std.specs.Prelude.{slice_get}
use Rattle.iiif_machine.specs.Keys.{parts_of}
use Rattle.iiif_machine.specs.Plans.{resolved}
use Rattle.iiif_machine.proofs.Lists.{get_map}
use Rattle.iiif_machine.specs.Worlds.{version_shown, speaker, with_node, with_calls}
use Rattle.iiif_machine.specs.Steps.{Want, Enter, Again, AskPeer, Serve, Take, Lose, GoLocal, Load, SourceFault, Land, Evict, Stop}
use Rattle.iiif_machine.specs.Steps.{caller_serving, node_without, step}
use Rattle.iiif_machine.specs.declared.events.Event.TheVariants as event
use Rattle.iiif_machine.specs.Sound.{CallerIsRight, facts, caller_of}
use Rattle.iiif_machine.proofs.Words.{Next}
use Rattle.iiif_machine.proofs.Words.{StepsStayHonest}
use Rattle.iiif_machine.proofs.Lists.{each_one}
use Rattle.iiif_machine.proofs.Settling.{next_by}
use Rattle.iiif_machine.proofs.Changes.{node_set, calls_add}
use Rattle.iiif_machine.proofs.Nodes.{lost_honest}
use Rattle.iiif_machine.proofs.Stops.{stopped_honest, stopped_follows}
use Rattle.iiif_machine.proofs.Preserved.{wanted_kept, entering_kept, looking_kept, asking_kept, replying_kept, taking_kept, losing_kept}
use Rattle.iiif_machine.proofs.Preserved.{going_local_kept, loading_kept, failing_kept, landing_kept}
use Rattle.iiif_machine.proofs.Learning.{after_bind}

pub step_kept : StepsStayHonest
unfolding step
step_kept w (Want node name request) laws tables h =
    after_bind (Next w) (slice_get w.nodes node) _
    (λ n at. after_bind (Next w) (w.scene.shows name) _ (λ p shown. after_bind (Next w) (speaker n (version_shown p)) _ (λ m speaks.
    wanted_kept w n p (record { node = node; name = name; request = request }) (resolved w.scene p request) laws h shown refl)))
step_kept w (Enter c) laws tables h =
    after_bind (Next w) (slice_get w.calls c) _ (λ call at. after_bind (Next w) (slice_get w.nodes call.caller.node) _ (λ n there.
    entering_kept w c call.caller n call.state laws tables h at (h.nodes _ n there)))
step_kept w (Again f) laws tables h =
    after_bind (Next w) (slice_get w.flights f) _ (λ fl at. after_bind (Next w) (slice_get w.nodes fl.lead.node) _ (λ n there.
    looking_kept w f fl.lead n fl.stage tables h at (h.nodes _ n there)))
step_kept w (AskPeer f) laws tables h =
    after_bind (Next w) (slice_get w.flights f) _ (λ fl at. after_bind (Next w) (slice_get w.nodes fl.lead.node) _ (λ n there.
    asking_kept w f fl.lead n fl.lead.class fl.stage refl h at))
step_kept w (Serve a) laws tables h =
    after_bind (Next w) (slice_get w.asks a) _
    (λ q at. after_bind (Next w) (slice_get w.nodes q.node) _ (λ n there. after_bind (Next w) (speaker n q.version) _ (λ m speaks.
    next_by w {v = with_calls w (caller_serving a q ∷ [])} refl refl refl
    (calls_add w (caller_serving a q ∷ []) h (each_one (CallerIsRight w.scene (facts w)) (caller_serving a q)
    (record { fits = (h.asks a q at).fits; purpose = (q, at, refl, refl) }))))))
step_kept w (event.Reply c) laws tables h =
    after_bind (Next w) (slice_get w.calls c) _
    (λ call at. replying_kept w c call.caller call.caller.purpose h (get_map caller_of w.calls c call at))
step_kept w (Take f r) laws tables h =
    after_bind (Next w) (slice_get w.flights f) _ (λ fl at. after_bind (Next w) (slice_get w.replies r) _ (λ reply there.
    taking_kept w f fl.lead reply fl.stage laws h at (h.replies r reply there)))
step_kept w (Lose f) laws tables h =
    after_bind (Next w) (slice_get w.flights f) _ (λ fl at. losing_kept w f fl.lead fl.stage h at)
step_kept w (GoLocal f) laws tables h =
    after_bind (Next w) (slice_get w.flights f) _ (λ fl at. going_local_kept w f fl.lead fl.stage h at)
step_kept w (Load f) laws tables h =
    after_bind (Next w) (slice_get w.flights f) _ (λ fl at. after_bind (Next w) (slice_get w.nodes fl.lead.node) _ (λ n there.
    loading_kept w f fl.lead n fl.lead.class fl.stage laws h at))
step_kept w (SourceFault f e) laws tables h =
    after_bind (Next w) (slice_get w.flights f) _ (λ fl at. failing_kept w f fl.lead e fl.lead.class (parts_of fl.lead.key) fl.stage h at)
step_kept w (Land f kept) laws tables h =
    after_bind (Next w) (slice_get w.flights f) _ (λ fl at. after_bind (Next w) (slice_get w.nodes fl.lead.node) _ (λ n there.
    landing_kept w f fl.lead n kept fl.stage laws tables h at (h.nodes _ n there)))
step_kept w (Evict node keys) laws tables h =
    after_bind (Next w) (slice_get w.nodes node) _
    (λ n at. next_by w {v = with_node w node (node_without n keys.items)} refl refl refl
    (node_set w node (node_without n keys.items) h (lost_honest tables w.scene n keys.items (h.nodes node n at))))
step_kept w (Stop node) laws tables h =
    after_bind (Next w) (slice_get w.nodes node) _
    (λ n at. record { follows = stopped_follows w node n; honest = stopped_honest tables w node n h })
