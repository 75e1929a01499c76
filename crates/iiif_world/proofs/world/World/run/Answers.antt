use Rattle.std.proofs.Common.{Some, refl, sym, ap, ◌∙◌, arith}
use Rattle.std.specs.Prelude.{take}
use Rattle.std.proofs.lemmas.List.{take_all}
use Rattle.std.proofs.lemmas.Option.{slice_get-get_or}
use Rattle.iiif_machine.specs.Steps.{run}
use Rattle.iiif_machine.specs.Worlds.{World}
use Rattle.iiif_machine.specs.declared.events.Event.{Event}
use Rattle.iiif_machine.proofs.Promised.{follows_itself, follows_further}
use Rattle.iiif_world.specs.Code.{world_of}
use Rattle.iiif_world.proofs.Right.{run_is_right}
use Rattle.iiif_world.proofs.Run.{run_next, stops_by}
use Rattle.iiif_world.proofs.world.World.run.Goals as goal

pub loop-place-init : goal.loop-place-init
unfolding run
loop-place-init c = (refl, c.contents.ensures.sound, follows_itself (world_of c.args.self))

pub returns-in-Err-clause-err : goal.returns-in-Err-clause-err
returns-in-Err-clause-err c =
    let now = world_of c.loop-place.world in (
      now,
      stops_by (world_of c.args.self) now c.args.events.now c.loop-place.place c.index-events-place.result c.in-Err.fault
          c.loop-place.invariant.0
          (slice_get-get_or c.args.events.now c.loop-place.place c.index-events-place.result c.loop-place-test.true ∙
          ap (λ (e : Event). Some e) (sym c.index-events-place.is)) c.in-Err.ensures.not_now c.in-Err.ensures.no_memory,
      run_is_right (world_of c.args.self) now (take c.loop-place.place c.args.events.now) c.contents.ensures.sound c.loop-place.invariant.0,
    )

pub loop-place-preserved : goal.loop-place-preserved
loop-place-preserved c = (
  run_next (world_of c.args.self) (world_of c.loop-place.world) (world_of c.step.new.self) c.args.events.now c.loop-place.place
      c.index-events-place.result c.loop-place-test.true
      c.index-events-place.is c.loop-place.invariant.0 c.in-Ok.ensures.ok,
  c.in-Ok.ensures.sound,
  follows_further (world_of c.args.self) (world_of c.loop-place.world) (world_of c.step.new.self) c.loop-place.invariant.2
      c.in-Ok.ensures.follows,
)

pub returns-clause-headline : goal.returns-clause-headline
returns-clause-headline c =
    run_is_right (world_of c.args.self) (world_of c.loop-place.world) c.args.events.now c.contents.ensures.sound
    (ap (run (world_of c.args.self)) (sym (take_all c.loop-place.place c.args.events.now (omega (arith, c.loop-place-test.false)))) ∙
    c.loop-place.invariant.0)
