use Rattle.iiif_pixel.specs.Picture.{dim_of}
use Rattle.iiif_pixel.proofs.Parts.{same_dim}
use Rattle.iiif_world.proofs.wanting.dim_of.Goals as goal

pub returns : goal.returns
returns c = same_dim c.dim.result (dim_of c.args.picture.now) c.dim.ensures.width c.dim.ensures.height
