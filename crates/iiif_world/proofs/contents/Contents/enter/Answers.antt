use Rattle.std.proofs.Common.{sym, ap, ◌∙◌, option_map}
use Rattle.iiif_machine.specs.declared.events.Event.TheVariants.{Enter}
use Rattle.iiif_machine.specs.Nodes.{node_of}
use Rattle.iiif_world.specs.Code.{world_of}
use Rattle.iiif_machine.specs.Entries.{kept_of}
use Rattle.iiif_world.proofs.Allowing.{wants_memory}
use Rattle.iiif_world.proofs.Stepped.{enter_lost}
use Rattle.iiif_world.proofs.contents.Contents.enter.Goals as goal

pub find-requires-clause-fresh : goal.find-requires-clause-fresh
find-requires-clause-fresh c = record {
  who = c.in-Some.caller.now;
  node = node_of c.in-Some-node_at.node.now;
  call = c.in-Some.ensures;
  there = c.in-Some-node_at.ensures;
  is_kept = sym c.in_ok-kept.ensures ∙ ap (option_map kept_of) c.in-Some-kept.is;
}

pub fly-requires-clause-fresh : goal.fly-requires-clause-fresh
fly-requires-clause-fresh c = record {
  who = c.in-Some.caller.now;
  node = node_of c.in-Some-node_at.node.now;
  call = c.in-Some.ensures;
  there = c.in-Some-node_at.ensures;
  is_kept = sym c.in_ok-kept.ensures ∙ ap (option_map kept_of) c.in-None.is;
}

pub returns-in_err-kept-clause-no_memory : goal.returns-in_err-kept-clause-no_memory
returns-in_err-kept-clause-no_memory c = wants_memory (world_of c.args.self.now) (Enter c.args.call) c.from_residual.result c.requires.sound
    (c.in-Some.caller.now, c.in-Some.ensures)

pub returns-in-Some-kept-clause-no_memory : goal.returns-in-Some-kept-clause-no_memory
returns-in-Some-kept-clause-no_memory c = wants_memory (world_of c.args.self.now) (Enter c.args.call) c.find.result c.requires.sound
    (c.in-Some.caller.now, c.in-Some.ensures)

pub returns-in-None-clause-no_memory : goal.returns-in-None-clause-no_memory
returns-in-None-clause-no_memory c = wants_memory (world_of c.args.self.now) (Enter c.args.call) c.fly.result c.requires.sound
    (c.in-Some.caller.now, c.in-Some.ensures)

pub returns-in_default-node_at-clause-not_now : goal.returns-in_default-node_at-clause-not_now
returns-in_default-node_at-clause-not_now c = λ same.
    enter_lost (world_of c.args.self.now) c.args.call c.in-Some.caller.now c.in-Some.ensures c.in_default-node_at.ensures
