use Rattle.std.proofs.Common.{subst}
use Rattle.iiif_machine.specs.Keys.{Fits}
use Rattle.iiif_world.specs.Code.{world_of}
use Rattle.iiif_world.proofs.Meant.{tile_fits, tile_known, sum_fits, sum_known}
use Rattle.iiif_world.proofs.contents.Contents.meaning.Goals as goal

pub tile-requires : goal.tile-requires
tile-requires c =
    let s = (world_of c.args.self.now).scene in
    tile_fits s c.in-Tile.key c.in-Some.picture.now c.in-Some.ensures (subst (Fits s) c.in-Tile.is c.requires.fits)

pub unreachable-requires : goal.unreachable-requires
unreachable-requires c =
    let s = (world_of c.args.self.now).scene in
    absurd (tile_known s c.in-Tile.key c.in-None.ensures (subst (Fits s) c.in-Tile.is c.requires.fits))

pub sums-requires-clause-fits : goal.sums-requires-clause-fits
sums-requires-clause-fits c =
    let s = (world_of c.args.self.now).scene in
    sum_fits s c.in-Sum.key c.in-Some-picture.picture.now c.requires.proper c.in-Some-picture.ensures
    (subst (Fits s) c.in-Sum.is c.requires.fits)

pub sums-requires-clause-source : goal.sums-requires-clause-source
sums-requires-clause-source c = c.requires.proper.sources c.in-Sum.key.name c.in-Some-picture.picture.now c.in-Some-picture.ensures

pub unreachable-requires-in-None-picture : goal.unreachable-requires-in-None-picture
unreachable-requires-in-None-picture c =
    let s = (world_of c.args.self.now).scene in
    absurd (sum_known s c.in-Sum.key c.in-None-picture.ensures (subst (Fits s) c.in-Sum.is c.requires.fits))
