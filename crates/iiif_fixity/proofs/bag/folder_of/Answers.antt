use Rattle.iiif_fixity.proofs.Folders.{folder_is}
use Rattle.iiif_fixity.proofs.bag.folder_of.Goals as goal

pub returns : goal.returns
returns c = folder_is c.args.path.now c.loop-len.len c.loop-len.invariant.within c.loop-len.invariant.name
    (c.ends_in_name.ensures.slash c.loop-len-test.false)
