use Rattle.std.proofs.Common.{◌≡◌}
use Rattle.std.proofs.Math.Logic.{∥∥₁_elim}
use Rattle.std.proofs.lemmas.Result.{IfOk-weaker}
use Rattle.iiif_pixel.specs.Operations.{crop}
use Rattle.iiif_keys.specs.Blocks.{tile_of}
use Rattle.iiif_keys.specs.Meaning.{tile_meaning}
use Rattle.iiif_tile_group.specs.Items.{item_of}
use Rattle.iiif_tile_group.specs.Named.{picture_in}
use Rattle.iiif_tile_group.proofs.ShownLemmas.{picture_dim, picture_depth, picture_kind, tile_is, tile_val_prop}
use Rattle.iiif_tile_group.proofs.images.Images.read_tile.Goals as goal

pub read-requires-clause-dim : goal.read-requires-clause-dim
read-requires-clause-dim g c = picture_dim g.S.Source.bytes (item_of c.args.entry.now) c.args.shape.now c.requires.shape

pub read-requires-clause-kind : goal.read-requires-clause-kind
read-requires-clause-kind g c = picture_kind g.S.Source.bytes (item_of c.args.entry.now) c.args.shape.now c.requires.shape
    c.requires.image.source

pub read-requires-clause-depth : goal.read-requires-clause-depth
read-requires-clause-depth g c = picture_depth g.S.Source.bytes (item_of c.args.entry.now) c.args.shape.now c.requires.shape
    c.requires.image.source

pub returns-clause-meant : goal.returns-clause-meant
returns-clause-meant g c = λ stable.
    let item = item_of c.args.entry.now in
    let shows = g.J.System.pictures in
    let s = c.args.shape.now in
    let k = c.args.key.now in
    let p = picture_in g.S.Source.bytes item in
    IfOk-weaker c.read.result (λ v. g.S.Source.keeps item.source → v.raster ≡ crop p (tile_of s.dim k)) (λ v. v ≡ tile_meaning shows k)
    (λ v made. ∥∥₁_elim (c.requires.image.kept stable) (tile_val_prop v (tile_meaning shows k))
    (λ keeps. tile_is shows k p s v c.requires.image.picture c.requires.shape (made keeps)))
    c.read.ensures.crop
