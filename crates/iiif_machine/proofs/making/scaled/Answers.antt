use Rattle.std.proofs.Common.{◌≡◌, ◌∙◌, sym, ap}
use Rattle.iiif_pixel.specs.Picture.{Picture, dim_of}
use Rattle.iiif_pixel.specs.Operations.{crop}
use Rattle.iiif_pixel.specs.Scaling.{scale}
use Rattle.iiif_pixel.proofs.Parts.{same_dim}
use Rattle.iiif_area.proofs.WholeTile.{tile_from, all_lies, inside_itself, finished_whole}
use Rattle.iiif_machine.proofs.making.scaled.Goals as goal

pub finish-requires-clause-inside : goal.finish-requires-clause-inside
finish-requires-clause-inside c =
    let p : Picture = c.args.region.now in
    let same : c.dim-sides.result ≡ dim_of p =
    same_dim c.dim-sides.result (dim_of p) c.dim-sides.ensures.width c.dim-sides.ensures.height in
    let tile = tile_from c.bands_follow.ensures.all p c.args.size c.dim-sides.result c.whole_rect.result c.whole_rect-2.result
    c.in_ok-sums.sums
    c.is_whole.ensures.whole c.requires.limits.columns c.requires.limits.rows same c.whole_rect.ensures c.whole_rect-2.ensures
    c.in_ok-sums.ensures.sums in
    inside_itself c.whole_rect-3.result c.in_ok-sums.sums.rect (tile.rect ∙ sym c.whole_rect-3.ensures)

pub returns : goal.returns
returns c =
    let p : Picture = c.args.region.now in
    let same : c.dim-sides.result ≡ dim_of p =
    same_dim c.dim-sides.result (dim_of p) c.dim-sides.ensures.width c.dim-sides.ensures.height in
    let tile = tile_from c.bands_follow.ensures.all p c.args.size c.dim-sides.result c.whole_rect.result c.whole_rect-2.result
    c.in_ok-sums.sums
    c.is_whole.ensures.whole c.requires.limits.columns c.requires.limits.rows same c.whole_rect.ensures c.whole_rect-2.ensures
    c.in_ok-sums.ensures.sums in
    let made = c.in_ok-scaled.ensures.scaled p c.args.size c.is_whole.ensures.whole (sym c.depth.ensures) (sym same)
    (all_lies c.args.size c.whole_rect-3.result c.whole_rect-3.ensures) tile.sums in
    made ∙ ap (crop (scale p c.args.size)) c.whole_rect-3.ensures
    ∙ finished_whole c.bands_follow.ensures.all p c.args.size (c.whole_stays_whole.ensures.scale p c.args.size c.is_whole.ensures.whole)
