use Rattle.std.proofs.Common.{rules, ◌∙◌, ℕ, List, ap, sym, subst}
use Rattle.std.proofs.lemmas.Result.{IfOk-weaker}
use Rattle.iiif_pixel.proofs.Whole.{channels-some}
use Rattle.iiif_pixel.specs.Geometry.{channels_of, sides_of, top_of}
use Rattle.iiif_pixel.specs.Picture.{Picture, dim_of}
use Rattle.iiif_keys.specs.Names.{named}
use Rattle.iiif_assemble.specs.Code.{count_of, ListsMetItems}
use Rattle.iiif_assemble.specs.Jobs.{channels_in}
use Rattle.iiif_assemble.specs.Making.{lent}
use Rattle.iiif_assemble.proofs.ImageLemmas.{band_image, band_sides, image_top, items_met, picture_shown, quality_channels, quality_sides}
use Rattle.iiif_assemble.proofs.ImageLemmas.{turned_channels}
use Rattle.iiif_assemble.proofs.HeldLemmas.{count_is, held_for}
use Rattle.iiif_assemble.proofs.band.render_band.Goals as goal

pub scale_part-requires-clause-lists : goal.scale_part-requires-clause-lists
scale_part-requires-clause-lists g c κs within =
    let r = c.args.job.now.resolved.now in
    let from = c.unturn_rect-from.result in
    let band = c.args.band.now in
    let met = items_met r c.args.job.now.plan.now from band.rect band.items.items c.unturn_rect-from.ensures.inside
    c.unturn_rect-from.ensures.same_places c.requires.band.items in
    subst (λ (js : List ℕ). ListsMetItems r from c.args.job.now.plan.now js) (sym c.deref.ensures.value) met

pub returns-in-Ok-apply_turn : goal.returns-in-Ok-apply_turn
returns-in-Ok-apply_turn g c =
    let j = lent c.args.job.now in
    let r = j.resolved in
    let n = channels_of j.shape.kind in
    let d = sides_of c.args.band.now.rect in
    let scaled = c.in-Ok.scaled.raster in
    let turned = c.in-Ok-apply_turn.turned.raster in
    let by = c.in-Ok-apply_turn.ensures.ok in
    let quarters = c.requires.job.quarters in
    let part = c.unturn_rect-from.ensures.same_part in
    let sides = ap dim_of by ∙ band_sides r.turn r.size c.unturn_rect-from.result c.args.band.now.rect scaled part quarters
    c.in-Ok.ensures.sides in
    let channels = ap (λ (p : Picture). p.channels) by ∙ turned_channels r.turn scaled quarters ∙ c.in-Ok.ensures.channels in
    let done = c.apply_quality.ensures in
    record {
      image = IfOk-weaker c.apply_quality.result _ _
          (λ m made shows shown.
          let p = named shows j.name in
          let of = picture_shown shows j shown.picture shown.source in
          band_image p r c.unturn_rect-from.result c.args.band.now.rect scaled turned m.raster part c.quality_of_crop.ensures quarters
          (channels-some p of.whole) c.requires.band.inside (c.in-Ok.ensures.image (shows, p) (of, (shown.tiles, shown.sums))) by made)
          done.ok;
      sides = IfOk-weaker c.apply_quality.result _ _ (λ m made. ap dim_of made ∙ quality_sides turned r.quality ∙ sides) done.ok;
      channels = IfOk-weaker c.apply_quality.result _ _
          (λ m made. ap (λ (p : Picture). p.channels) made ∙ quality_channels turned r.quality ∙ ap (channels_in r.quality) channels)
          done.ok;
      top = IfOk-weaker c.apply_quality.result _ _
          (λ m made. image_top scaled turned m.raster r.turn r.quality (top_of j.shape.depth) c.in-Ok.ensures.top by made) done.ok;
      held = IfOk-weaker c.apply_quality.result _ _ (λ m h. held_for d n (count_of turned) m.held (count_is turned d n sides channels) h)
          (done.held (c.in-Ok-apply_turn.ensures.held c.in-Ok.ensures.held));
      fault = search rules;
    }
