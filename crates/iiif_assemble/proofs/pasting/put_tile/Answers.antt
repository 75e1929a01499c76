use Rattle.std.proofs.Common.{◌∙◌, ap, sym}
use Rattle.iiif_keys.specs.Blocks.{tile_of}
use Rattle.iiif_assemble.specs.Code.{tile_in}
use Rattle.iiif_assemble.proofs.PasteLemmas.{copies_tile}
use Rattle.iiif_assemble.proofs.pasting.put_tile.Goals as goal

pub returns-then-meets-clause-copies : goal.returns-then-meets-clause-copies
returns-then-meets-clause-copies c p same is =
    copies_tile p c.deref.result.now.raster c.args.picture.now c.put_part.new.picture c.rect_in-at.result
    (tile_of c.args.shape.now.dim c.args.key.now) c.args.rect c.part_of.result
    c.corner_of.result c.rect_in-at.ensures c.part_of.ensures.part c.corner_of.ensures (ap tile_in c.deref.ensures ∙ is)
    (c.requires.channels ∙ sym same) c.put_part.ensures
