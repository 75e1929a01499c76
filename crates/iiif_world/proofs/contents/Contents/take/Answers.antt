use Rattle.std.proofs.Common.{sym}
use Rattle.std.proofs.lemmas.Option.{slice_get_within}
use Rattle.iiif_machine.specs.declared.events.Event.TheVariants.{Take}
use Rattle.iiif_world.specs.Code.{world_of}
use Rattle.iiif_world.proofs.Asked.{asks_by, memory_wanted, take_none, take_unsent, take_other, take_ended, take_is, take_done}
use Rattle.iiif_world.proofs.contents.Contents.take.Goals as goal

pub returns-in_default-clause-not_now : goal.returns-in_default-clause-not_now
returns-in_default-clause-not_now c = λ same. take_none (world_of c.args.self.now) c.args.flight c.args.reply c.in_default.ensures

pub returns-in_default-reply_at-clause-not_now : goal.returns-in_default-reply_at-clause-not_now
returns-in_default-reply_at-clause-not_now c = λ same.
    take_unsent (world_of c.args.self.now) c.args.flight c.args.reply c.in-Some.row.now c.in-Some.ensures c.in_default-reply_at.ensures

pub returns-in_default-takes-clause-not_now : goal.returns-in_default-takes-clause-not_now
returns-in_default-takes-clause-not_now c = λ same.
    take_other (world_of c.args.self.now) c.args.flight c.args.reply c.in-Some.row.now c.in-Some-reply_at.sent.now
    c.in-Some.ensures c.in-Some-reply_at.ensures (sym c.in_default-takes.ensures)

pub returns-then-not-asks-clause-ok : goal.returns-then-not-asks-clause-ok
returns-then-not-asks-clause-ok c =
    take_ended (world_of c.args.self.now) c.args.flight c.args.reply c.in-Some.row.now c.in-Some-reply_at.sent.now c.in-Some-takes.asks
    c.in-Some.ensures c.in-Some-reply_at.ensures c.in-Some-takes.ensures c.if-not-asks.true

pub returns-in_err-stage-clause-no_memory : goal.returns-in_err-stage-clause-no_memory
returns-in_err-stage-clause-no_memory c =
    memory_wanted (world_of c.args.self.now) _ (Take c.args.flight c.args.reply) c.from_residual.result
    (take_is (world_of c.args.self.now) c.args.flight c.args.reply c.in-Some.row.now c.in-Some-reply_at.sent.now c.in-Some.ensures
    c.in-Some-reply_at.ensures (asks_by c.in-Some.row.now.stage c.in-Some-takes.asks c.in-Some-takes.ensures c.if-not-asks.false))

pub set_stage-requires : goal.set_stage-requires
set_stage-requires c = slice_get_within c.args.self.now.flights.items c.args.flight _ c.in-Some.ensures

pub returns-clause-ok : goal.returns-clause-ok
returns-clause-ok c =
    take_done (world_of c.args.self.now) (world_of c.set_stage.new.self) c.args.flight c.args.reply c.in-Some.row.now
    c.in-Some-reply_at.sent.now c.in_ok-stage.stage c.in-Some.ensures
    c.in-Some-reply_at.ensures (asks_by c.in-Some.row.now.stage c.in-Some-takes.asks c.in-Some-takes.ensures c.if-not-asks.false)
    c.in_ok-stage.ensures
    (c.set_stage.ensures c.in-Some.row.now.lead c.in-Some.row.now.stage c.in-Some.ensures)
