use Rattle.std.proofs.Common.{◌∙◌, List, ap}
use Rattle.iiif_tile_group.specs.Collection.{Item, item_named}
use Rattle.iiif_tile_group.specs.Items.{item_of}
use Rattle.iiif_server.specs.Nodes.{Service}
use Rattle.iiif_server.proofs.JobLemmas.{job_for}
use Rattle.iiif_server.proofs.node.Node.job.Goals as goal

pub returns : goal.returns
returns g c =
    let item = item_of c.args.entry.now in
    let images = c.images-images.ensures in
    let found = ap (λ (xs : List (Item g.row.S.Denot)). item_named xs item.name) images.items ∙ c.requires.found in
    let inside = ap (λ (n : Service g.row.S.Denot). item_named n.items item.name) c.self.view_is ∙ c.requires.found in
    job_for g.J.System.pictures g.J.System.gave g.J.System.stable g.J.System.edge g.S.Source.bytes g.S.Source.gave g.S.Source.keeps
    c.images-images.result.now item
    c.args.accepted.now c.edge.result c.job_of.result images.pictures images.gave images.stable found
    (c.self.invariant.kept item.name item inside)
    (c.edge.ensures.value ∙ c.self.invariant.has_edge) c.job_of.ensures.source c.job_of.ensures.job c.job_of.ensures.name
    c.job_of.ensures.edge c.job_of.ensures.resolved
    c.job_of.ensures.shape
