use Rattle.std.proofs.Common.{◌≡◌, All, map}
use Rattle.std.specs.List.{range_with_len}
use Rattle.iiif_pixel.specs.TurnPlaces.{turned_dim}
use Rattle.iiif_planner.specs.Bands.{band_rect, ListsItems}
use Rattle.iiif_planner.proofs.banding.bands.Given as goal

abbrev pub invariant-loop-i : goal.invariant-loop-i
invariant-loop-i l =
    record {
      rects : map (λ b. b.rect) l.bands.items ≡ map (band_rect (turned_dim l.resolved.turn l.resolved.size) l.rows) (range_with_len 0 l.i);
      items : All (λ b. ListsItems l.resolved l.plan b.rect b.items.items) l.bands.items;
    }
