use Rattle.iiif_tile_group.specs.Items.{item_of}
use Rattle.iiif_tile_group.proofs.ShownLemmas.{picture_shape, picture_source}
use Rattle.iiif_tile_group.proofs.entry.ImageEntry.shape.Goals as goal

pub returns-clause-shape : goal.returns-clause-shape
returns-clause-shape g c =
    picture_shape g.S.Source.bytes (item_of c.args.self.now) (record { dim = c.dim.result; kind = c.kind.result; depth = c.depth.result })
    c.dim.ensures.width c.dim.ensures.height c.kind.ensures c.depth.ensures

pub returns-clause-source : goal.returns-clause-source
returns-clause-source g c =
    picture_source g.S.Source.bytes (item_of c.args.self.now) c.len-len.ensures.bytes c.kind.result c.kind.ensures c.dim.result
    c.dim.ensures.width c.dim.ensures.height c.dim.ensures.limits
