use Rattle.std.proofs.Common.{ap, ◌∙◌}
use Rattle.std.specs.Prelude.{slice_get}
use Rattle.std.proofs.lemmas.Option.{slice_get_within}
use Rattle.iiif_machine.specs.Worlds.{World}
use Rattle.iiif_machine.specs.declared.events.Event.TheVariants.{SourceFault}
use Rattle.iiif_world.specs.Code.{world_of}
use Rattle.iiif_world.proofs.Asked.{memory_wanted}
use Rattle.iiif_world.proofs.Refused.{fault_gone, fault_other, fault_wide, fault_sum, fault_is, fault_done}
use Rattle.iiif_world.proofs.contents.Contents.source_fault.Goals as goal

pub returns-in_default-clause-not_now : goal.returns-in_default-clause-not_now
returns-in_default-clause-not_now c = λ same. fault_gone (world_of c.args.self.now) c.args.flight c.args.fault c.in_default.ensures

pub returns-in_default-stage-clause-not_now : goal.returns-in_default-stage-clause-not_now
returns-in_default-stage-clause-not_now c = λ same.
    fault_other (world_of c.args.self.now) c.args.flight c.args.fault c.in-Some.row.now c.in-Some.ensures c.in_default-stage.not-Looked

pub returns-in_default-class-clause-not_now : goal.returns-in_default-class-clause-not_now
returns-in_default-class-clause-not_now c = λ same.
    fault_wide (world_of c.args.self.now) c.args.flight c.args.fault c.in-Some.row.now c.in-Some.ensures c.in_default-class.not-Local

pub returns-in_default-key-clause-not_now : goal.returns-in_default-key-clause-not_now
returns-in_default-key-clause-not_now c = λ same.
    fault_sum (world_of c.args.self.now) c.args.flight c.args.fault c.in-Some.row.now c.in-Some.ensures c.in_default-key.not-Tile

pub returns-in_err-copy-clause-no_memory : goal.returns-in_err-copy-clause-no_memory
returns-in_err-copy-clause-no_memory c =
    memory_wanted (world_of c.args.self.now) _ (SourceFault c.args.flight c.args.fault) c.from_residual.result
    (fault_is (world_of c.args.self.now) c.args.flight c.args.fault c.in-Some.row.now c.in-Tile.field-0 c.in-Some.ensures c.in-Looked.is
    c.in-Local.is c.in-Tile.is)

pub returns-in_err-add_given-clause-no_memory : goal.returns-in_err-add_given-clause-no_memory
returns-in_err-add_given-clause-no_memory c =
    memory_wanted (world_of c.args.self.now) _ (SourceFault c.args.flight c.args.fault) c.from_residual-in_err-add_given.result
    (fault_is (world_of c.args.self.now) c.args.flight c.args.fault c.in-Some.row.now c.in-Tile.field-0 c.in-Some.ensures c.in-Looked.is
    c.in-Local.is c.in-Tile.is)

pub set_stage-requires : goal.set_stage-requires
set_stage-requires c =
    slice_get_within c.add_given.new.self.flights.items c.args.flight _
    (ap (λ (z : World). slice_get z.flights c.args.flight) c.in_ok-add_given.ensures.ok ∙ c.in-Some.ensures)

pub returns-clause-ok : goal.returns-clause-ok
returns-clause-ok c =
    let at = ap (λ (z : World). slice_get z.flights c.args.flight) c.in_ok-add_given.ensures.ok ∙ c.in-Some.ensures in
    fault_done (world_of c.args.self.now) (world_of c.add_given.new.self) (world_of c.set_stage.new.self) c.args.flight c.args.fault
    c.in-Some.row.now c.in-Tile.field-0
    c.in_ok-copy.field-0 c.in-Some.ensures c.in-Looked.is c.in-Local.is c.in-Tile.is (c.in_ok-copy.ensures ∙ c.name_of.ensures)
    c.in_ok-add_given.ensures.ok
    (c.set_stage.ensures c.in-Some.row.now.lead c.in-Some.row.now.stage at)
