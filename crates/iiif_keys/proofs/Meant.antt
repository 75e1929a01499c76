-- Lemmas on meanings of keys that fit, and on values of their shape.
use Rattle.std.proofs.Common.{◌≡◌, ℕ, ◌+◌, ◌*◌, ◌/◌, ◌^◌, ◌<◌, ◌≤◌, ◌⊎◌, length, refl, sym, ap, subst, ◌∙◌, arith, ⊎_elim}
use Rattle.std.specs.Int.{div_ceil}
use Rattle.std.proofs.Math.Nat.{mul-le-mul, mul-le-mul_left, mul-le-mul_right}
use Rattle.std.proofs.lemmas.Bool.{cases_lt}
use Rattle.std.proofs.lemmas.Nat.{pow_pos}
use Rattle.iiif_pixel.specs.Picture.{dim_of, IsWhole}
use Rattle.iiif_pixel.specs.Geometry.{channels_of}
use Rattle.iiif_pixel.specs.Operations.{crop}
use Rattle.iiif_pixel.specs.declared.geometry.Dim.{Dim}
use Rattle.iiif_pixel.specs.declared.geometry.Rect.{Rect}
use Rattle.iiif_pixel.proofs.SampleLists.{length-samples_of}
use Rattle.iiif_pixel.proofs.Seen.{one_or_three}
use Rattle.iiif_pixel.proofs.Whole.{All-samples_of, whole_crop}
use Rattle.iiif_area.specs.Grid.{part_sum, IsGrid}
use Rattle.iiif_area.proofs.PieceLaws.{part_sum-fits}
use Rattle.iiif_area.proofs.PlaceLaws.{places_below}
use Rattle.iiif_area.proofs.WeightLaws.{div_times-le, div_ceil-times}
use Rattle.iiif_keys.specs.declared.keys.TileKey.{TileKey}
use Rattle.iiif_keys.specs.declared.keys.SumKey.{SumKey}
use Rattle.iiif_keys.specs.declared.values.TileVal.{TileVal}
use Rattle.iiif_keys.specs.declared.values.SumVal.{SumVal}
use Rattle.iiif_keys.specs.declared.keys.Shape.{Shape}
use Rattle.iiif_keys.specs.Names.{Pictures, named, IsName, IsSource}
use Rattle.iiif_keys.specs.Shapes.{shape_of, HasPicture}
use Rattle.iiif_keys.specs.Blocks.{tile_of, block_of, part_in, places_in, TileFitsIn, SumFitsIn}
use Rattle.iiif_keys.specs.Bytes.{tile_key_bytes, sum_key_bytes, tile_val_bytes, sum_val_bytes, IsRect, IsTileKey, IsSumKey, IsTileVal}
use Rattle.iiif_keys.specs.Bytes.{IsSumVal}
use Rattle.iiif_keys.specs.Meaning.{tile_meaning, sum_meaning, TileHasShape, SumHasShape}
use Rattle.iiif_keys.proofs.Shaped.{depth_with_top, fits_picture, kind_with_channels, three_at_most}
use Rattle.iiif_keys.proofs.KeyBytes.{length-tile_key, length-sum_key}
use Rattle.iiif_keys.proofs.ValueBytes.{length-tile_val, length-sum_val}

-- A part with a column meets a result column.
some_places : (x n a c : ℕ) → 0 < a → 0 < n → 0 < c → x * c / a < div_ceil ((x + n) * c) a
some_places x n a c p q r =
    let low = div_times-le (x * c) a in
    let high = div_ceil-times ((x + n) * c) a p in
    let more : (x + 1) * c ≤ (x + n) * c = mul-le-mul_right c (omega arith) in
    ⊎_elim
    (λ (h : x * c / a < div_ceil ((x + n) * c) a). h)
    (λ (h : div_ceil ((x + n) * c) a ≤ x * c / a).
    let d : div_ceil ((x + n) * c) a * a ≤ x * c / a * a = mul-le-mul_right a h in
    absurd (omega arith))
    (cases_lt (x * c / a) (div_ceil ((x + n) * c) a))

-- the places of a key that fits
pub record PlacesAre (places : Rect) (size : Dim) : Type 0 where
  pub columns : 0 < places.w
  pub rows : 0 < places.h
  pub right : places.x + places.w ≤ size.w
  pub lower : places.y + places.h ≤ size.h

-- The result pixels of a key that fits have sides of at least 1, and lie within the size.
pub places_are : (image : Dim) (channels : ℕ) (k : SumKey) → SumFitsIn image channels k → PlacesAre (places_in image k) k.size
places_are image channels k fits =
    let part = part_in image k in
    let t = block_of image k in
    let w : 0 < part.w = fits.block.meets.columns in
    let h : 0 < part.h = fits.block.meets.rows in
    let a = fits.columns in
    let b = fits.rows in
    let right : part.x + part.w ≤ k.rect.w = omega arith in
    let lower : part.y + part.h ≤ k.rect.h = omega arith in
    let x = some_places part.x part.w k.rect.w k.size.w (omega arith) w a.0 in
    let y = some_places part.y part.h k.rect.h k.size.h (omega arith) h b.0 in
    let u = places_below part.x part.w k.rect.w k.size.w (omega arith) right in
    let v = places_below part.y part.h k.rect.h k.size.h (omega arith) lower in
    record { columns = omega arith; rows = omega arith; right = omega arith; lower = omega arith }

-- A value of the shape of a tile's key that fits can be decoded.
pub tile_val_known : (s : Shape) (k : TileKey) (v : TileVal) → TileFitsIn s.dim (channels_of s.kind) k → TileHasShape s k v →
    IsWhole v.raster → IsTileVal v
tile_val_known s k v fits shape whole =
    let w = shape.width in
    let h = shape.height in
    let e = fits.edge.some in
    let l = fits.edge.within in
    let c = fits.column in
    let r = fits.row in
    record {
      columns = (omega arith, omega arith);
      rows = (omega arith, omega arith);
      whole = whole;
    }

-- A value of the shape of a sum's key that fits can be decoded.
pub sum_val_known : (s : Shape) (k : SumKey) (v : SumVal) → SumFitsIn s.dim (channels_of s.kind) k → SumHasShape s k v → IsGrid v.sums
    → k.size.w < 2 ^ 32 → k.size.h < 2 ^ 32 → IsSumVal v
sum_val_known s k v fits shape grid c d =
    let p = places_are s.dim (channels_of s.kind) k fits in
    let a = p.columns in
    let b = p.rows in
    let e = p.right in
    let f = p.lower in
    record {
      places = subst IsRect (sym shape.places)
          (record { left = omega arith; upper = omega arith; columns = (a, omega arith); rows = (b, omega arith) });
      channels = subst (λ (n : ℕ). (n ≡ 1) ⊎ (n ≡ 3)) (sym shape.sums_a_place) (one_or_three s.kind);
      count = grid.count;
      bound = grid.bound;
    }

-- The meaning of a tile's key that fits has its shape, and can be decoded.
pub tile_meant : (shows : Pictures) (s : Shape) (k : TileKey) → HasPicture shows k.name s → IsSource (named shows k.name) →
    TileFitsIn s.dim (channels_of s.kind) k
    → TileHasShape s k (tile_meaning shows k) × IsTileVal (tile_meaning shows k)
tile_meant shows s k has source fits =
    let p = named shows k.name in
    let v = tile_meaning shows k in
    let own : TileHasShape (shape_of p) k v = record {
      width = refl;
      height = refl;
      samples = sym (kind_with_channels p.channels source.whole.channels);
      depth =
          sym (depth_with_top p.top source.whole.top);
    } in
    let shape : TileHasShape s k v = subst (λ (u : Shape). TileHasShape u k v) has.shape own in
    (shape, tile_val_known s k v fits shape (whole_crop p (tile_of (dim_of p) k) source.whole))

-- The meaning of a sum's key that fits has its shape, and can be decoded.
pub sum_meant : (shows : Pictures) (s : Shape) (k : SumKey) → HasPicture shows k.name s → IsSource (named shows k.name) →
    SumFitsIn s.dim (channels_of s.kind) k
    → SumHasShape s k (sum_meaning shows k) × IsSumVal (sum_meaning shows k)
sum_meant shows s k has source whole_fits =
    let p = named shows k.name in
    let fits : SumFitsIn (dim_of p) p.channels k = fits_picture (λ d n. SumFitsIn d n k) p s has.shape source.whole whole_fits in
    let whole = whole_crop p k.rect source.whole in
    let places = places_in (dim_of p) k in
    let c = fits.columns in
    let r = fits.rows in
    let l = fits.block.rect.columns in
    let m = fits.block.rect.rows in
    let t = source.readable in
    let area : k.rect.w * k.rect.h ≤ p.width * p.height = mul-le-mul (omega arith) (omega arith) in
    let f = part_sum (crop p k.rect) k.size (part_in (dim_of p) k) in
    let v = sum_meaning shows k in
    let own : SumHasShape (shape_of p) k v = record
    { places = refl; sums_a_place = sym (kind_with_channels p.channels source.whole.channels) } in
    let shape : SumHasShape s k v = subst (λ (x : Shape). SumHasShape x k v) has.shape own in
    let grid : IsGrid v.sums = record {
      count = length-samples_of places.w places.h p.channels (λ i j n. f (places.x + i) (places.y + j) n);
      bound = All-samples_of (λ n. n < 2 ^ 64) places.w places.h p.channels (λ i j n. f (places.x + i) (places.y + j) n)
          (λ i j n li lj ln. part_sum-fits (crop p k.rect) k.size (part_in (dim_of p) k) (places.x + i) (places.y + j) n whole
          (omega arith));
    } in
    (shape, sum_val_known s k v whole_fits shape grid (omega arith) (omega arith))

-- A product below a limit has a factor below it.
not_above : (n s limit : ℕ) → 0 < s → n * s < limit → n < limit
not_above n s limit p h =
    let e : n * 1 ≤ n * s = mul-le-mul_left n (omega arith) in
    omega arith

-- A tile's key that fits can be decoded.
pub fitting_tile_key : (s : Shape) (k : TileKey) → s.dim.w < 2 ^ 32 → s.dim.h < 2 ^ 32 → IsName k.name →
    TileFitsIn s.dim (channels_of s.kind) k → IsTileKey k
fitting_tile_key s k w h name fits =
    let image = s.dim in
    let x = not_above k.tx k.edge image.w fits.edge.some fits.column in
    let y = not_above k.ty k.edge image.h fits.edge.some fits.row in
    record { name = name; edge = fits.edge; column = omega arith; row = omega arith }

-- A sum's key that fits can be decoded.
pub fitting_sum_key : (shape : Shape) (k : SumKey) → shape.dim.w < 2 ^ 32 → shape.dim.h < 2 ^ 32 → IsName k.name →
    SumFitsIn shape.dim (channels_of shape.kind) k → IsSumKey k
fitting_sum_key shape k w h name fits =
    let image = shape.dim in
    let s = 2 ^ k.level * k.edge in
    let some : 1 * 1 ≤ s = mul-le-mul (pow_pos k.level) fits.block.edge.some in
    let side : 0 < s = omega arith in
    let m = fits.block.meets.columns in
    let n = fits.block.meets.rows in
    let x = not_above k.bx s image.w side (omega arith) in
    let y = not_above k.by s image.h side (omega arith) in
    let c = fits.columns in
    let r = fits.rows in
    let l = fits.block.rect.columns in
    let d = fits.block.rect.rows in
    record {
      name = name;
      edge = fits.block.edge;
      rect = record { left = omega arith; upper = omega arith; columns = (omega arith, omega arith); rows = (omega arith, omega arith) };
      columns = (c.0, omega arith);
      rows = (r.0, omega arith);
      level = fits.block.level;
      column = omega arith;
      row = omega arith;
    }

-- A tile's key that can be decoded has at most 4,096 bytes.
pub tile_key_small : (k : TileKey) → IsTileKey k → length (tile_key_bytes k) ≤ 4096
tile_key_small k is = let n = is.name.len.within in omega (arith, length-tile_key k)

-- A sum's key that can be decoded has at most 4,096 bytes.
pub sum_key_small : (k : SumKey) → IsSumKey k → length (sum_key_bytes k) ≤ 4096
sum_key_small k is = let n = is.name.len.within in omega (arith, length-sum_key k)

-- A value of the shape of a tile's key that fits has at most 2^26 bytes.
pub tile_val_small : (s : Shape) (k : TileKey) (v : TileVal) → TileFitsIn s.dim (channels_of s.kind) k → TileHasShape s k v → IsTileVal v →
    length (tile_val_bytes v) ≤ 2 ^ 26
tile_val_small s k v fits shape is =
    let three = three_at_most s.kind in
    let e = fits.edge.within in
    let w : v.raster.width ≤ 1024 = let a = shape.width in omega arith in
    let h : v.raster.height ≤ 1024 = let a = shape.height in omega arith in
    let n : v.raster.channels ≤ 3 = let a = shape.samples in omega arith in
    let area : v.raster.width * v.raster.height ≤ 1024 * 1024 = mul-le-mul w h in
    let small : v.raster.width * v.raster.height ≤ 1048576 = omega arith in
    let all : v.raster.width * v.raster.height * v.raster.channels ≤ 1048576 * 3 = mul-le-mul small n in
    omega (arith, length-tile_val v is, is.whole.count)

-- A value of the shape of a sum's key that fits has at most 2^26 bytes.
pub sum_val_small : (s : Shape) (k : SumKey) (v : SumVal) → SumFitsIn s.dim (channels_of s.kind) k → SumHasShape s k v → IsSumVal v →
    length (sum_val_bytes v) ≤ 2 ^ 26
sum_val_small s k v fits shape is =
    let image = s.dim in
    let channels = channels_of s.kind in
    let limit = fits.value in
    let count : v.sums.rect.w * v.sums.rect.h * v.sums.channels ≡ (places_in image k).w * (places_in image k).h * channels =
    ap (λ (r : Rect). r.w * r.h * v.sums.channels) shape.places ∙
    ap (λ (n : ℕ). (places_in image k).w * (places_in image k).h * n) shape.sums_a_place in
    omega (arith, length-sum_val v, is.count, count)
