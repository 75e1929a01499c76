use Rattle.std.proofs.Common.{subst}
use Rattle.iiif_pixel.specs.Geometry.{LiesIn}
use Rattle.iiif_tile_group.specs.Items.{item_of}
use Rattle.iiif_answers.proofs.NameLemmas.{item_dim}
use Rattle.iiif_answers.proofs.images.job_of.Goals as goal

pub new-requires-clause-inside : goal.new-requires-clause-inside
new-requires-clause-inside g c =
    subst (LiesIn c.args.accepted.now.resolved.rect)
    (item_dim g.S.Source.bytes (item_of c.args.entry.now) c.shape-shape.result c.shape-shape.ensures.shape) c.requires.ready.inside
