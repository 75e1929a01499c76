use Rattle.std.proofs.Common.{◌<◌, List, length, sym, subst, ap, ◌∙◌, arith}
use Rattle.iiif_keys.specs.Names.{IsSource}
use Rattle.iiif_machine.specs.Sound.{Each}
use Rattle.iiif_machine.specs.Worlds.{new_world}
use Rattle.iiif_world.specs.Code.{IsSoundWorld, scene_of}
use Rattle.iiif_world.specs.Starting.{AreSources, HasNodeName, IsNamed, NamesNodes}
use Rattle.iiif_world.specs.declared.starting.Setup.{Setup}
use Rattle.iiif_world.specs.declared.contents.Item.{Item}
use Rattle.iiif_world.proofs.Started.{starts_sound}
use Rattle.iiif_world.proofs.world.World.new.Goals as goal

pub from_contents-requires : goal.from_contents-requires
from_contents-requires c =
    let s = scene_of c.args.catalogue.items c.args.edge c.args.limits c.args.room c.args.faults_early in
    let sources = subst (Each (λ (i : Item). IsSource i.picture)) c.deref.ensures.value
    (c.are_sources.ensures.yes c.if-not-are_sources.false) in
    let rings = subst (λ (xs : List Setup). Each (λ (x : Setup). (0 < length x.ring) × Each (IsNamed xs) x.ring) xs) c.deref-2.ensures.value
    (c.rings_name_nodes.ensures.yes c.if-not-rings_name_nodes.false) in
    subst IsSoundWorld (sym (c.begun.ensures ∙ ap (new_world s) c.in-Ok.ensures))
    (starts_sound c.args.setups.items c.args.catalogue.items c.args.edge c.args.limits c.args.room c.args.faults_early sources
    (record { some = omega arith; within = omega arith }) (omega arith) rings)

pub returns-then-not-are_sources-clause-fault : goal.returns-then-not-are_sources-clause-fault
returns-then-not-are_sources-clause-fault c = (
  record { some = omega arith; within = omega arith },
  record { some = omega arith; within = omega arith },
  subst (λ (xs : List Item). ¬ AreSources xs) c.deref.ensures.value (c.are_sources.ensures.no c.if-not-are_sources.true),
)

pub returns-then-not-rings_name_nodes-clause-fault : goal.returns-then-not-rings_name_nodes-clause-fault
returns-then-not-rings_name_nodes-clause-fault c = (
  record { some = omega arith; within = omega arith },
  record { some = omega arith; within = omega arith },
  subst AreSources c.deref.ensures.value (c.are_sources.ensures.yes c.if-not-are_sources.false),
  subst (λ (xs : List Setup). ¬ Each (NamesNodes xs) xs) c.deref-2.ensures.value
      (c.rings_name_nodes.ensures.no c.if-not-rings_name_nodes.true),
)

pub returns-then-not-have_node_names-clause-fault : goal.returns-then-not-have_node_names-clause-fault
returns-then-not-have_node_names-clause-fault c = (
  record { some = omega arith; within = omega arith },
  record { some = omega arith; within = omega arith },
  subst AreSources c.deref.ensures.value (c.are_sources.ensures.yes c.if-not-are_sources.false),
  subst (λ (xs : List Setup). Each (NamesNodes xs) xs) c.deref-2.ensures.value
      (c.rings_name_nodes.ensures.yes c.if-not-rings_name_nodes.false),
  subst (λ (xs : List Setup). ¬ Each HasNodeName xs) c.deref-3.ensures.value
      (c.have_node_names.ensures.no c.if-not-have_node_names.true),
)

pub returns-in-Err-clause-fault : goal.returns-in-Err-clause-fault
returns-in-Err-clause-fault c = (
  record { some = omega arith; within = omega arith },
  record { some = omega arith; within = omega arith },
  subst AreSources c.deref.ensures.value (c.are_sources.ensures.yes c.if-not-are_sources.false),
  subst (λ (xs : List Setup). Each (NamesNodes xs) xs) c.deref-2.ensures.value
      (c.rings_name_nodes.ensures.yes c.if-not-rings_name_nodes.false),
  subst (λ (xs : List Setup). Each HasNodeName xs) c.deref-3.ensures.value
      (c.have_node_names.ensures.yes c.if-not-have_node_names.false),
)
