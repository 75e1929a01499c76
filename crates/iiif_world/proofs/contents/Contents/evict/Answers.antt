use Rattle.std.proofs.Common.{◌≡◌, ◌<◌, map, length, refl, sym, ap, ◌∙◌, Some, arith}
use Rattle.std.specs.Prelude.{slice_get, slice_set}
use Rattle.std.proofs.lemmas.Option.{slice_get-get_or, slice_get_past}
use Rattle.iiif_machine.proofs.Lists.{get_map}
use Rattle.iiif_machine.specs.Steps.{node_without, step}
use Rattle.iiif_machine.specs.Nodes.{node_of}
use Rattle.iiif_world.specs.Code.{world_of}
use Rattle.iiif_world.proofs.Changed.{missing_map, map-set}
use Rattle.iiif_world.proofs.Stepped.{evict_done}
use Rattle.iiif_world.proofs.Refused.{evict_gone}
use Rattle.iiif_world.proofs.contents.Contents.evict.Goals as goal

pub returns-clause-ok : goal.returns-clause-ok
unfolding step
returns-clause-ok c =
    let w = world_of c.args.self.now in
    let ns = c.args.self.now.nodes.items in
    let i = c.args.node in
    let n = c.index_mut.result.now in
    let m = c.lose.new.self in
    let less : i < length ns = omega (arith, c.if-node-len.false, c.len.ensures, c.args.self.now.nodes.ok.0) in
    let at : slice_get ns i ≡ Some n = slice_get-get_or ns i n less ∙ ap Some (sym c.index_mut.ensures.value) in
    evict_done w _ i c.args.keys.now.items (node_of n) (node_of m) (map node_of (slice_set ns i m)) (get_map node_of ns i n at)
    (map-set node_of ns i m)
    (c.lose.ensures ∙ ap (node_without (node_of n)) c.deref.ensures.value) refl

pub returns-then-node-len-clause-not_now : goal.returns-then-node-len-clause-not_now
returns-then-node-len-clause-not_now c = λ same.
    let ns = c.args.self.now.nodes.items in
    evict_gone (world_of c.args.self.now) c.args.node c.args.keys.now
    (missing_map node_of ns c.args.node (slice_get_past ns c.args.node
    (omega (arith, c.if-node-len.true, c.len.ensures, c.args.self.now.nodes.ok.0))))
