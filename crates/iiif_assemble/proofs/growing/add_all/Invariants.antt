use Rattle.std.proofs.Common.{◌≡◌, fold, get_or, map, take}
use Rattle.std.specs.Arc.{arc_value}
use Rattle.iiif_pixel.specs.Operations.{crop}
use Rattle.iiif_pixel.specs.Picture.{Picture}
use Rattle.iiif_area.specs.Grid.{merged}
use Rattle.iiif_keys.specs.Blocks.{tile_of}
use Rattle.iiif_keys.specs.declared.keys.TileKey.{TileKey}
use Rattle.iiif_assemble.specs.Code.{tile_adds, tile_in}
use Rattle.iiif_assemble.specs.Gathering.{AreValues}
use Rattle.iiif_assemble.proofs.growing.add_all.Given as goal

-- the tiles so far
abbrev pub invariant-loop-n : goal.invariant-loop-n
invariant-loop-n l =
    record {
      rect : l.total.rect ≡ l.fn.total.rect;
      channels : l.total.channels ≡ l.fn.total.channels;
      sums : (p : Picture) (x : TileKey) → AreValues (λ k v. tile_in v ≡ crop p (tile_of l.shape.dim k)) l.keys l.items
          (map arc_value l.values)
          → l.total ≡ fold merged l.fn.total (map (λ i. tile_adds p l.shape.dim l.resolved.rect l.resolved.size (get_or l.keys i x))
          (take l.n l.items));
    }
