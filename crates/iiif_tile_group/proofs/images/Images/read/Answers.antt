use Rattle.std.proofs.Common.{◌∙◌, ap}
use Rattle.iiif_pixel.specs.Operations.{crop}
use Rattle.iiif_tile_group.specs.Items.{item_of}
use Rattle.iiif_tile_group.specs.Named.{picture_in}
use Rattle.iiif_tile_group.proofs.ShownLemmas.{picture_shows}
use Rattle.iiif_tile_group.proofs.images.Images.read.Goals as goal

pub returns-in-Ok-clause-crop : goal.returns-in-Ok-clause-crop
returns-in-Ok-clause-crop g c = λ keeps.
    let item = item_of c.args.entry.now in
    let p = picture_in g.S.Source.bytes item in
    let is = c.args.entry.now.shown keeps in
    c.in-Ok.ensures.crop keeps is p (picture_shows g.S.Source.bytes item is c.requires.source) ∙ ap (crop p) c.rect_in-at.ensures
