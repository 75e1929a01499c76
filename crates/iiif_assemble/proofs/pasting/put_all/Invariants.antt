use Rattle.std.proofs.Common.{◌≡◌, get_or, map, take}
use Rattle.std.specs.Arc.{arc_value}
use Rattle.iiif_pixel.specs.Geometry.{channels_of}
use Rattle.iiif_pixel.specs.Operations.{crop}
use Rattle.iiif_pixel.specs.Picture.{Picture, dim_of}
use Rattle.iiif_area.specs.Places.{part_of}
use Rattle.iiif_keys.specs.Blocks.{tile_of}
use Rattle.iiif_keys.specs.declared.keys.TileKey.{TileKey}
use Rattle.iiif_assemble.specs.Code.{tile_in, HasCopied}
use Rattle.iiif_assemble.specs.Gathering.{AreValues}
use Rattle.iiif_assemble.proofs.pasting.put_all.Given as goal

-- the tiles so far
abbrev pub invariant-loop-n : goal.invariant-loop-n
invariant-loop-n l =
    record {
      sides : dim_of l.picture ≡ dim_of l.fn.picture;
      channels : l.picture.channels ≡ l.fn.picture.channels;
      top : l.picture.top ≡ l.fn.picture.top;
      copied : (p : Picture) (x : TileKey) → p.channels ≡ channels_of l.shape.kind
          → AreValues (λ k v. tile_in v ≡ crop p (tile_of l.shape.dim k)) l.keys l.items (map arc_value l.values)
          → HasCopied (crop p l.rect) (map (λ i. part_of (tile_of l.shape.dim (get_or l.keys i x)) l.rect) (take l.n l.items)) l.picture;
    }
