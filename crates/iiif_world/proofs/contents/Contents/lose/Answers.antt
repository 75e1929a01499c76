use Rattle.std.proofs.Common.{refl}
use Rattle.std.proofs.lemmas.Option.{slice_get_within}
use Rattle.iiif_world.specs.Code.{world_of}
use Rattle.iiif_world.proofs.Asked.{no_want, lose_none, lose_other, lose_done}
use Rattle.iiif_world.proofs.contents.Contents.lose.Goals as goal

pub returns-in_default-clause-not_now : goal.returns-in_default-clause-not_now
returns-in_default-clause-not_now c = λ same. lose_none (world_of c.args.self.now) c.args.flight c.in_default.ensures

pub returns-in_default-stage : goal.returns-in_default-stage
returns-in_default-stage c = record {
  ok = tt;
  not_now = λ same. lose_other (world_of c.args.self.now) c.args.flight c.in-Some.row.now c.in-Some.ensures c.in_default-stage.not-Asking;
  no_memory = no_want;
  same = refl;
}

pub set_stage-requires : goal.set_stage-requires
set_stage-requires c = slice_get_within c.args.self.now.flights.items c.args.flight _ c.in-Some.ensures

pub returns-clause-ok : goal.returns-clause-ok
returns-clause-ok c =
    lose_done (world_of c.args.self.now) (world_of c.set_stage.new.self) c.args.flight c.in-Some.row.now c.in-Some.ensures c.in-Asking.is
    (c.set_stage.ensures c.in-Some.row.now.lead c.in-Some.row.now.stage c.in-Some.ensures)
