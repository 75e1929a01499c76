-- Keys of tiles and of sums as one type: what they name, what their values are, and of which parts a sum is made.
use Rattle.std.specs.Prelude.{ℕ, ◌+◌, List, [], ◌∷◌, Bool, true, false, ◌&&◌, ◌==◌, nat_eq, Option, Some, None, map, fold, length}
use Rattle.std.specs.Prelude.{slice_get, if◌then◌else◌}
use Rattle.std.specs.Str.{bytes_eq}
use Rattle.iiif_pixel.specs.Geometry.{channels_of}
use Rattle.iiif_pixel.specs.Picture.{Picture, dim_of}
use Rattle.iiif_area.specs.Grid.{Grid, merged}
use Rattle.iiif_keys.specs.Names.{no_picture, named}
use Rattle.iiif_keys.specs.Blocks.{NamesPart, TileFitsIn, SumFitsIn, tile_of, places_in}
use Rattle.iiif_keys.specs.Bytes.{tile_key_bytes, sum_key_bytes, tile_val_bytes, sum_val_bytes}
use Rattle.iiif_keys.specs.Meaning.{tile_meaning, sum_meaning, tile_below, sums_below, tile_rank, sum_rank, tile_sums, no_sums}
use Rattle.iiif_keys.specs.declared.keys.TileKey.{TileKey}
use Rattle.iiif_keys.specs.declared.keys.SumKey.{SumKey}
use Rattle.iiif_machine.specs.Scenes.{Scene}
use Rattle.iiif_machine.specs.declared.keys.Key.TheVariants as key
use Rattle.iiif_machine.specs.declared.keys.Value.TheVariants as value
pub use Rattle.iiif_machine.specs.declared.keys.Key.{Key}
pub use Rattle.iiif_machine.specs.declared.keys.Value.{Value}

-- the name of the image
unfoldable pub name_of : Key → List ℕ
name_of (key.Tile k) = k.name
name_of (key.Sum k) = k.name

-- a key is made of keys of lower ranks
unfoldable pub rank_of : Key → ℕ
rank_of (key.Tile k) = tile_rank k
rank_of (key.Sum k) = sum_rank k

-- whether the key is a tile's
unfoldable pub is_tile : Key → Bool
is_tile (key.Tile k) = true
is_tile (key.Sum k) = false

-- the same tile, and the same sum, as `==` has them
abbrev pub same_tile : TileKey → TileKey → Bool
same_tile a b = bytes_eq a.name b.name && (nat_eq a.edge b.edge && (nat_eq a.tx b.tx && nat_eq a.ty b.ty))

abbrev pub same_sum : SumKey → SumKey → Bool
same_sum a b = bytes_eq a.name b.name && (nat_eq a.edge b.edge
    && ((nat_eq a.rect.x b.rect.x && (nat_eq a.rect.y b.rect.y && (nat_eq a.rect.w b.rect.w && nat_eq a.rect.h b.rect.h)))
    && ((nat_eq a.size.w b.size.w && nat_eq a.size.h b.size.h) && (nat_eq a.level b.level && (nat_eq a.bx b.bx && nat_eq a.by b.by)))))

-- the same key
unfoldable pub key_eq : Key → Key → Bool
key_eq (key.Tile a) (key.Tile b) = same_tile a b
key_eq (key.Sum a) (key.Sum b) = same_sum a b
key_eq (key.Tile a) (key.Sum b) = false
key_eq (key.Sum a) (key.Tile b) = false

-- the bytes by which a key is written, and a value
unfoldable pub key_bytes : Key → List ℕ
key_bytes (key.Tile k) = tile_key_bytes k
key_bytes (key.Sum k) = sum_key_bytes k

unfoldable pub value_bytes : Value → List ℕ
value_bytes (value.Tile v) = tile_val_bytes v
value_bytes (value.Sum v) = sum_val_bytes v

-- how many bytes an entry of a cache takes: its key's and its value's
abbrev pub entry_size : Key → Value → ℕ
entry_size k v = length (key_bytes k) + length (value_bytes v)

-- the key names something
unfoldable pub Fits : Scene → Key → Type 0
Fits s (key.Tile k) = NamesPart s.shows s.edge k.name k.edge (λ shape. TileFitsIn shape.dim (channels_of shape.kind) k)
Fits s (key.Sum k) = NamesPart s.shows s.edge k.name k.edge (λ shape. SumFitsIn shape.dim (channels_of shape.kind) k)

-- the value that a key names
unfoldable pub meaning : Scene → Key → Value
meaning s (key.Tile k) = value.Tile (tile_meaning s.shows k)
meaning s (key.Sum k) = value.Sum (sum_meaning s.shows k)

-- The parts of a sum: its tile at level 0, else the sums of the level below. A tile has none: it is read from its source.
unfoldable pub parts_of : Key → Option (List Key)
parts_of (key.Tile k) = None
parts_of (key.Sum k) = Some (if k.level == 0 then key.Tile (tile_below k) ∷ [] else map key.Sum (sums_below k))

-- the picture of a tile
abbrev pub picture_in : Option Value → Picture
picture_in None = no_picture
picture_in (Some (value.Tile v)) = v.raster
picture_in (Some (value.Sum v)) = no_picture

-- a grid without places
abbrev pub no_grid : Grid
no_grid = record { rect = record { x = 0; y = 0; w = 0; h = 0 }; channels = 0; sums = [] }

-- the sums of a sum
abbrev pub grid_in : Value → Grid
grid_in (value.Tile v) = no_grid
grid_in (value.Sum v) = v.sums

-- What the values of its parts make: of the tile its sums; of sums, one after another, added to sums of 0.
unfoldable pub derived : Scene → Key → List Value → Value
derived s (key.Tile k) values = meaning s (key.Tile k)
derived s (key.Sum k) values =
    let p = named s.shows k.name in
    let image = dim_of p in
    value.Sum (record {
      sums =
          if k.level == 0
          then tile_sums (picture_in (slice_get values 0)) (tile_of image (tile_below k)) k (places_in image k)
          else fold merged (no_sums image p.channels k) (map grid_in values);
    })
