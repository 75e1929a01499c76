use Rattle.std.proofs.Common.{◌∙◌, ◌++◌, ◌∷◌, [], List, All, map, ap, sym, subst, arith}
use Rattle.std.specs.List.{range_with_len}
use Rattle.std.proofs.lemmas.List.{map-append}
use Rattle.std.proofs.lemmas.List.FromFn.{map-range_with_len_more}
use Rattle.std.proofs.lemmas.List.Elements.{All-push}
use Rattle.iiif_pixel.specs.TurnPlaces.{turned_dim}
use Rattle.iiif_pixel.specs.declared.geometry.Rect.{Rect}
use Rattle.iiif_planner.specs.Bands.{band_rect, ListsItems}
use Rattle.iiif_planner.specs.declared.banding.Band.{Band}
use Rattle.iiif_planner.proofs.banding.bands.Goals as goal

pub loop-i-preserved : goal.loop-i-preserved
loop-i-preserved c =
    let r = c.args.resolved.now in
    let f = band_rect (turned_dim r.turn r.size) c.args.rows in
    let i = c.loop-i.i in
    let b = c.in_ok-band_at.field-0 in
    let rect : Band → Rect = λ q. q.rect in
    let P : Band → Type 0 = λ q. ListsItems r c.args.plan.now q.rect q.items.items in
    record {
      rects = ap (map rect) c.in_ok-push.ensures.items ∙ map-append rect c.loop-i.bands.items (b ∷ [])
          ∙ ap (λ (rs : List Rect). rs ++ b.rect ∷ []) c.loop-i.invariant.rects
          ∙ ap (λ (q : Rect). map f (range_with_len 0 i) ++ q ∷ []) c.in_ok-band_at.ensures.band.rect
          ∙ sym (map-range_with_len_more f 0 i i (omega arith));
      items = subst (All P) (sym c.in_ok-push.ensures.items)
          (All-push P c.loop-i.bands.items b c.loop-i.invariant.items c.in_ok-band_at.ensures.band.items);
    }
