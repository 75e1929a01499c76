use Rattle.std.proofs.Common.{◌≡◌, length, refl, ap, ◌∙◌, arith}
use Rattle.std.specs.Prelude.{slice_get}
use Rattle.std.proofs.lemmas.Option.{slice_get_within}
use Rattle.iiif_machine.specs.Worlds.{World}
use Rattle.iiif_machine.specs.declared.events.Event.TheVariants.{GoLocal}
use Rattle.iiif_world.specs.Code.{world_of}
use Rattle.iiif_world.proofs.Asked.{memory_wanted, no_want, local_none, local_other, local_called, local_is, local_done}
use Rattle.iiif_world.proofs.contents.Contents.go_local.Goals as goal

pub returns-in_default-clause-not_now : goal.returns-in_default-clause-not_now
returns-in_default-clause-not_now c = λ same. local_none (world_of c.args.self.now) c.args.flight c.in_default.ensures

pub returns-in_default-stage : goal.returns-in_default-stage
returns-in_default-stage c = record {
  ok = tt;
  not_now = λ same. local_other (world_of c.args.self.now) c.args.flight c.in-Some.row.now c.in-Some.ensures
      c.in_default-stage.not-Fallback;
  no_memory = no_want;
  same = refl;
}

pub returns-in_default-asked-clause-not_now : goal.returns-in_default-asked-clause-not_now
returns-in_default-asked-clause-not_now c = λ same.
    local_called (world_of c.args.self.now) c.args.flight c.in-Some.row.now c.in-Fallback.asked c.in_default-asked.field-0 c.in-Some.ensures
    c.in-Fallback.is c.in_default-asked.is

pub returns-in_err-copy-clause-no_memory : goal.returns-in_err-copy-clause-no_memory
returns-in_err-copy-clause-no_memory c =
    memory_wanted (world_of c.args.self.now) _ (GoLocal c.args.flight) c.from_residual.result
    (local_is (world_of c.args.self.now) c.args.flight c.in-Some.row.now c.in-Fallback.asked c.in-Some.ensures c.in-Fallback.is
    c.in-None.is)

pub returns-in_err-add_call-clause-no_memory : goal.returns-in_err-add_call-clause-no_memory
returns-in_err-add_call-clause-no_memory c =
    memory_wanted (world_of c.args.self.now) _ (GoLocal c.args.flight) c.from_residual-in_err-add_call.result
    (local_is (world_of c.args.self.now) c.args.flight c.in-Some.row.now c.in-Fallback.asked c.in-Some.ensures c.in-Fallback.is
    c.in-None.is)

pub set_stage-requires : goal.set_stage-requires
set_stage-requires c =
    slice_get_within c.add_call.new.self.flights.items c.args.flight _
    (ap (λ (z : World). slice_get z.flights c.args.flight) c.in_ok-add_call.ensures.ok ∙ c.in-Some.ensures)

pub returns-clause-ok : goal.returns-clause-ok
returns-clause-ok c =
    let number : c.len-call.result ≡ length c.args.self.now.calls.items = omega (arith, c.len-call.ensures, c.args.self.now.calls.ok.0) in
    let at = ap (λ (z : World). slice_get z.flights c.args.flight) c.in_ok-add_call.ensures.ok ∙ c.in-Some.ensures in
    local_done (world_of c.args.self.now) (world_of c.add_call.new.self) (world_of c.set_stage.new.self) c.args.flight c.len-call.result
    c.in-Some.row.now c.in-Fallback.asked
    c.in_ok-copy.field-0 c.in-Some.ensures c.in-Fallback.is c.in-None.is c.in_ok-copy.ensures number c.in_ok-add_call.ensures.ok
    (c.set_stage.ensures c.in-Some.row.now.lead c.in-Some.row.now.stage at)
