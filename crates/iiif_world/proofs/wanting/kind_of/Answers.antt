use Rattle.iiif_world.proofs.Meant.{kind_same}
use Rattle.iiif_world.proofs.wanting.kind_of.Goals as goal

pub returns : goal.returns
returns c = kind_same c.kind.result c.args.picture.now c.kind.ensures
