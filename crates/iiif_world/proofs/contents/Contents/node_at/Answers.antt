use Rattle.std.proofs.Common.{List, sym, ap, ◌∙◌}
use Rattle.std.specs.Prelude.{slice_get}
use Rattle.iiif_machine.proofs.Lists.{get_map}
use Rattle.iiif_machine.specs.Nodes.{node_of}
use Rattle.iiif_machine.specs.declared.node.Node.{Node}
use Rattle.iiif_world.proofs.Changed.{missing_map}
use Rattle.iiif_world.proofs.contents.Contents.node_at.Goals as goal

pub returns-in-Some : goal.returns-in-Some
returns-in-Some c =
    get_map node_of c.args.self.now.nodes.items c.args.node c.in-Some.found.now
    (ap (λ (ns : List Node). slice_get ns c.args.node) (sym c.deref.ensures.value) ∙ c.in-Some.ensures)

pub returns-in-None : goal.returns-in-None
returns-in-None c =
    missing_map node_of c.args.self.now.nodes.items c.args.node
    (ap (λ (ns : List Node). slice_get ns c.args.node) (sym c.deref.ensures.value) ∙ c.in-None.ensures)
