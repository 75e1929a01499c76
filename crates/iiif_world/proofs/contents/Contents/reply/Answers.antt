use Rattle.std.proofs.Common.{refl, sym, ◌∙◌}
use Rattle.iiif_machine.specs.declared.events.Event.TheVariants as event
use Rattle.iiif_world.specs.Code.{world_of}
use Rattle.iiif_world.proofs.Asked.{memory_wanted, no_want, reply_none, reply_other, reply_unknown, reply_memory, reply_is, reply_done}
use Rattle.iiif_world.proofs.contents.Contents.reply.Goals as goal

pub returns-in_default-clause-not_now : goal.returns-in_default-clause-not_now
returns-in_default-clause-not_now c = λ same. reply_none (world_of c.args.self.now) c.args.call c.in_default.ensures

pub returns-in_default-purpose : goal.returns-in_default-purpose
returns-in_default-purpose c = record {
  ok = tt;
  not_now = λ same. reply_other (world_of c.args.self.now) c.args.call c.in-Some.row.now c.in-Some.ensures c.in_default-purpose.not-ForAsk;
  no_memory = no_want;
  same = refl;
}

pub returns-in_err-outcome-clause-no_memory : goal.returns-in_err-outcome-clause-no_memory
returns-in_err-outcome-clause-no_memory c =
    reply_memory (world_of c.args.self.now) c.args.call c.in-ForAsk.field-0 c.in-Some.row.now c.from_residual.result c.in-Some.ensures
    c.in-ForAsk.is c.in_err-outcome.ensures.err

pub returns-in_default-2-clause-not_now : goal.returns-in_default-2-clause-not_now
returns-in_default-2-clause-not_now c = λ same.
    reply_unknown (world_of c.args.self.now) c.args.call c.in-ForAsk.field-0 c.in-Some.row.now c.in-Some.ensures c.in-ForAsk.is
    (sym c.in_ok-outcome.ensures.ok ∙ c.in_default-2.is)

pub returns-in_err-key-clause-no_memory : goal.returns-in_err-key-clause-no_memory
returns-in_err-key-clause-no_memory c =
    memory_wanted (world_of c.args.self.now) _ (event.Reply c.args.call) c.from_residual-in_err-key.result
    (reply_is (world_of c.args.self.now) c.args.call c.in-ForAsk.field-0 c.in-Some.row.now c.in-Some-2.outcome c.in-Some.ensures
    c.in-ForAsk.is (sym c.in_ok-outcome.ensures.ok ∙ c.in-Some-2.is))

pub returns-in_err-add_reply-clause-no_memory : goal.returns-in_err-add_reply-clause-no_memory
returns-in_err-add_reply-clause-no_memory c =
    memory_wanted (world_of c.args.self.now) _ (event.Reply c.args.call) c.from_residual-in_err-add_reply.result
    (reply_is (world_of c.args.self.now) c.args.call c.in-ForAsk.field-0 c.in-Some.row.now c.in-Some-2.outcome c.in-Some.ensures
    c.in-ForAsk.is (sym c.in_ok-outcome.ensures.ok ∙ c.in-Some-2.is))

pub returns-clause-ok : goal.returns-clause-ok
returns-clause-ok c =
    reply_done (world_of c.args.self.now) (world_of c.add_reply.new.self) c.args.call c.in-ForAsk.field-0 c.in-Some.row.now
    c.in-Some-2.outcome c.in_ok-key.key c.in-Some.ensures c.in-ForAsk.is
    (sym c.in_ok-outcome.ensures.ok ∙ c.in-Some-2.is) c.in_ok-key.ensures c.in_ok-add_reply.ensures.ok
