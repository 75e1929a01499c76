-- How long replies and values are.
use Rattle.std.proofs.Common.{◌≡◌, ℕ, ◌+◌, ◌*◌, ◌≤◌, List, ◌∷◌, ◌++◌, length, ap, ◌∙◌, arith, length-append}
use Rattle.std.specs.Int.{w32, to_be_bytes}
use Rattle.sha2.specs.Sha256.{sha256}
use Rattle.sha2.proofs.Facts256.{length-sha256}
use Rattle.iiif_pixel.specs.Geometry.{bytes_of, channels_of, top_of}
use Rattle.iiif_pixel.specs.declared.geometry.Depth.{Depth}
use Rattle.iiif_pixel.specs.declared.geometry.Depth.TheVariants.{Eight, Sixteen}
use Rattle.iiif_pixel.specs.declared.geometry.Rect.{Rect}
use Rattle.iiif_peer_wire.specs.Messages.{field, reply_magic, reply_text}
use Rattle.iiif_peer_wire.specs.declared.version.Version.{Version}
use Rattle.iiif_peer_wire.specs.declared.version.Version.TheVariants.{One, Two}
use Rattle.iiif_keys.specs.Blocks.{places_in, sum_val_len, tile_of}
use Rattle.iiif_keys.specs.Bytes.{samples_bytes, sum_val_bytes, tile_val_bytes, IsSumVal, IsTileVal}
use Rattle.iiif_keys.specs.Meaning.{SumHasShape, TileHasShape}
use Rattle.iiif_keys.specs.declared.keys.Shape.{Shape}
use Rattle.iiif_keys.specs.declared.keys.SumKey.{SumKey}
use Rattle.iiif_keys.specs.declared.keys.TileKey.{TileKey}
use Rattle.iiif_keys.specs.declared.values.SumVal.{SumVal}
use Rattle.iiif_keys.specs.declared.values.TileVal.{TileVal}
use Rattle.iiif_keys.proofs.ValueBytes.{length-sum_val, length-tile_bytes, length-tile_val}
use Rattle.iiif_peer_link.specs.Lengths.{around, tile_val_len, HasRoom}

length-field : (bytes : List ℕ) → length (field bytes) ≡ 4 + length bytes
length-field bytes = omega (arith, length-append (to_be_bytes w32 (length bytes)) bytes)

length-magic : (version : Version) → length (reply_magic version) ≡ 4
length-magic One = omega arith
length-magic Two = omega arith

pub room_for : (value : List ℕ) (most : ℕ) → around + length value ≤ most → HasRoom most value
unfolding reply_text
room_for value most enough version key short =
    let digest = length-sha256 (key ++ value) in
    let behind = length-append (field value) (sha256 (key ++ value)) in
    let keyed = length-append (field key) (0 ∷ (field value ++ sha256 (key ++ value))) in
    let all = length-append (reply_magic version) (field key ++ 0 ∷ (field value ++ sha256 (key ++ value))) in
    omega (arith, enough, short, digest, behind, keyed, all, length-field key, length-field value, length-magic version)

-- samples of a depth take so many bytes
samples_of : (depth : Depth) (top : ℕ) (v : TileVal) → v.raster.top ≡ top_of depth → IsTileVal v →
    length (tile_val_bytes v) ≤ 9 + length v.raster.samples * bytes_of depth
samples_of Eight top v is whole =
    let plain : length (samples_bytes v.raster.top v.raster.samples) ≡ length v.raster.samples =
    ap (λ (n : ℕ). length (samples_bytes n v.raster.samples)) is in
    omega (arith, length-tile_bytes v, plain)
samples_of Sixteen top v is whole = omega (arith, length-tile_val v whole)

pub tile_len : (s : Shape) (k : TileKey) (v : TileVal) → TileHasShape s k v → IsTileVal v
    → length (tile_val_bytes v) ≤ tile_val_len (tile_of s.dim k) (channels_of s.kind) (bytes_of s.depth)
tile_len s k v shape whole =
    let count : length v.raster.samples ≡ (tile_of s.dim k).w * (tile_of s.dim k).h * channels_of s.kind =
    whole.whole.count ∙ (ap (λ (n : ℕ). n * v.raster.height * v.raster.channels) shape.width
    ∙ (ap (λ (n : ℕ). (tile_of s.dim k).w * n * v.raster.channels) shape.height ∙
    ap (λ (n : ℕ). (tile_of s.dim k).w * (tile_of s.dim k).h * n) shape.samples)) in
    let bytes : length v.raster.samples * bytes_of s.depth ≡ (tile_of s.dim k).w * (tile_of s.dim k).h * channels_of s.kind * bytes_of
    s.depth =
    ap (λ (n : ℕ). n * bytes_of s.depth) count in
    omega (arith, samples_of s.depth (top_of s.depth) v shape.depth whole, bytes)

pub sum_len : (s : Shape) (k : SumKey) (v : SumVal) → SumHasShape s k v → IsSumVal v →
    length (sum_val_bytes v) ≤ sum_val_len (places_in s.dim k) (channels_of s.kind)
sum_len s k v shape is =
    let count : v.sums.rect.w * v.sums.rect.h * v.sums.channels ≡ (places_in s.dim k).w * (places_in s.dim k).h * channels_of s.kind =
    ap (λ (r : Rect). r.w * r.h * v.sums.channels) shape.places ∙
    ap (λ (n : ℕ). (places_in s.dim k).w * (places_in s.dim k).h * n) shape.sums_a_place in
    omega (arith, length-sum_val v, is.count, count)
