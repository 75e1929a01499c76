-- The picture that the only image of a node has.
use Rattle.std.proofs.Common.{◌≡◌, ℕ, Bool, List, Some, None, option_map, refl, sym, ap, ◌∙◌}
use Rattle.std.specs.Cmp.Lexicographic.{nat_list_eq_equiv}
use Rattle.std.specs.Prelude.{if◌then◌else◌, unwrap_or}
use Rattle.iiif_pixel.specs.Picture.{Picture, dim_of, picture_of, sample_at}
use Rattle.iiif_pixel.specs.Operations.{crop}
use Rattle.iiif_pixel.proofs.SampleLists.{picture_of-samples, samples_of-same}
use Rattle.iiif_tiff.specs.Tiff.{Shows, bits, channels, height, scheme, shown, white_of, width}
use Rattle.iiif_area.specs.Grid.{sums_of}
use Rattle.iiif_keys.specs.Blocks.{part_in, tile_of}
use Rattle.iiif_keys.specs.Meaning.{sum_meaning, tile_meaning}
use Rattle.iiif_keys.specs.Names.{named, no_picture}
use Rattle.iiif_keys.specs.declared.keys.SumKey.{SumKey}
use Rattle.iiif_keys.specs.declared.keys.TileKey.{TileKey}
use Rattle.iiif_keys.specs.declared.values.SumVal.{SumVal}
use Rattle.iiif_keys.specs.declared.values.TileVal.{TileVal}
use Rattle.iiif_tile_group.specs.Collection.{Item}
use Rattle.iiif_tile_group.specs.Named.{picture_in}
use Rattle.iiif_witnesses.specs.Code.{images_of, pictures_held}
use Rattle.iiif_witnesses.specs.Values.{AreSumsOf, IsTileOf}

-- the picture that bytes show is built of what their layout shows
shown_is : (bytes : List ℕ) (p : Picture) → Shows bytes p
    → picture_of (width bytes) (height bytes) (channels bytes) (white_of (bits bytes)) (shown bytes (scheme bytes)) ≡ p
shown_is bytes p is =
    let f = shown bytes (scheme bytes) in
    let sides : picture_of (width bytes) (height bytes) (channels bytes) (white_of (bits bytes)) f
    ≡ picture_of p.width p.height p.channels p.top f =
    rw (is.width_is, is.height_is, is.channels_is, is.top_is) refl in
    sides
    ∙ ap (λ (s : List ℕ). record p { samples = s })
    (samples_of-same p.width p.height p.channels f (λ x y k. sample_at p x y k) (λ x y k lx ly lk. sym (is.places x y k lx ly lk)))
    ∙ picture_of-samples p is.whole

only_item : (name file : List ℕ) → Item (List ℕ)
only_item name file = record { name = name; source = file; layout = scheme file }

-- the only image has it
item_shows : (name file : List ℕ) (p : Picture) → Shows file p → picture_in (λ (source : List ℕ). source) (only_item name file) ≡ p
unfolding picture_in only_item
item_shows name file p is = shown_is file p is

-- so its name stands for it
name_shows : (name file : List ℕ) (p : Picture) → Shows file p → named (pictures_held (images_of name file)) name ≡ p
unfolding only_item
name_shows name file p is =
    ap (λ (b : Bool). unwrap_or (option_map (picture_in (λ (source : List ℕ). source)) (if b then Some (only_item name file) else None))
    no_picture)
    (nat_list_eq_equiv.refl name)
    ∙ item_shows name file p is

-- the meaning of a tile's key is its part of the picture
pub tile_is : (file : List ℕ) (key : TileKey) (v : TileVal) → v ≡ tile_meaning (pictures_held (images_of key.name file)) key
    → IsTileOf file key v
tile_is file key v e p is =
    ap (λ (w : TileVal). w.raster) e ∙ ap (λ (q : Picture). crop q (tile_of (dim_of q) key)) (name_shows key.name file p is)

-- and that of sums those of its block
pub sums_are : (file : List ℕ) (key : SumKey) (v : SumVal) → v ≡ sum_meaning (pictures_held (images_of key.name file)) key
    → AreSumsOf file key v
sums_are file key v e p is =
    ap (λ (w : SumVal). w.sums) e
    ∙ ap (λ (q : Picture). sums_of (crop q key.rect) key.size (part_in (dim_of q) key)) (name_shows key.name file p is)
