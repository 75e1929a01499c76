-- The picture that a layout shows in bytes.
use Rattle.std.proofs.Common.{◌≡◌, ℕ, ◌≤◌, ◌⊎◌, ◌∙◌, List, All, Some, Option, refl, sym, ap, subst}
use Rattle.std.specs.Prelude.{unwrap_or}
use Rattle.std.proofs.Props.{props}
use Rattle.iiif_pixel.specs.Geometry.{channels_of, top_of}
use Rattle.iiif_pixel.specs.Operations.{crop}
use Rattle.iiif_pixel.specs.Picture.{Picture, dim_of, picture_of}
use Rattle.iiif_pixel.specs.declared.geometry.Dim.{Dim}
use Rattle.iiif_pixel.specs.declared.geometry.Kind.{Kind}
use Rattle.iiif_pixel.proofs.SampleLists.{sample_at-picture_of}
use Rattle.iiif_pixel.proofs.Seen.{one_or_three}
use Rattle.iiif_pixel.proofs.Whole.{whole_picture_of}
use Rattle.iiif_pixel.proofs.Parts.{same_dim}
use Rattle.iiif_tiff.specs.Tiff.{IsReadable, Scheme, Shows, scheme, shown, white_of}
use Rattle.iiif_tiff.proofs.OnePicture.{shown-le, white_is}
use Rattle.iiif_tiff_read.specs.Layouts as layouts
use Rattle.iiif_keys.specs.Names.{Pictures, named, no_picture, IsSource}
use Rattle.iiif_keys.specs.Blocks.{tile_of}
use Rattle.iiif_keys.specs.Meaning.{tile_meaning}
use Rattle.iiif_keys.specs.Shapes.{shape_of}
use Rattle.iiif_keys.specs.declared.keys.Shape.{Shape}
use Rattle.iiif_keys.specs.declared.keys.TileKey.{TileKey}
use Rattle.iiif_keys.specs.declared.values.TileVal.{TileVal}
use Rattle.iiif_keys.proofs.Shaped.{depth_with_top, kind_with_channels, shape_is}
use Rattle.iiif_tile_group.specs.Collection.{Item}
use Rattle.iiif_tile_group.specs.Named.{picture_in}

abbrev seen : List ℕ → Scheme → Picture
seen bytes s = picture_of s.width s.height s.channels (white_of s.bits) (shown bytes s)

abbrev dim_made : ℕ → ℕ → Dim
dim_made w h = record { w = w; h = h }

-- it is one that a source holds
seen_source : (bytes : List ℕ) (s : Scheme) (d : Dim) → All (λ b. b ≤ 255) bytes → (s.channels ≡ 1) ⊎ (s.channels ≡ 3) → d.w ≡ s.width →
    d.h ≡ s.height → IsReadable d → IsSource (seen bytes s)
seen_source bytes s d all channels w h limits = record {
  whole = whole_picture_of s.width s.height s.channels (white_of s.bits) (shown bytes s) channels (white_is s.bits)
      (λ x y k lx ly lk. shown-le bytes s x y k all);
  readable = subst IsReadable (same_dim d (dim_made s.width s.height) w h) limits;
}

shows_own : (bytes : List ℕ) → IsSource (seen bytes (scheme bytes)) → Shows bytes (seen bytes (scheme bytes))
shows_own bytes p =
    let s = scheme bytes in
    record {
      width_is = refl;
      height_is = refl;
      channels_is = refl;
      top_is = refl;
      whole = p.whole;
      places = λ x y k lx ly lk. sample_at-picture_of s.width s.height s.channels (white_of s.bits) (shown bytes s) x y k lx ly lk;
    }

-- and where the layout is that of the bytes, they show it
seen_shows : (bytes : List ℕ) (s : Scheme) → s ≡ scheme bytes → IsSource (seen bytes s) → Shows bytes (seen bytes s)
seen_shows bytes s e p =
    subst (λ (t : Scheme). IsSource (seen bytes t) → Shows bytes (seen bytes t)) (sym e) (shows_own bytes) p

module _ {S : Type 0} (bytes : S → List ℕ) (item : Item S) where
  -- the shape of an image's picture
  pub picture_shape : (s : Shape) → s.dim.w ≡ item.layout.width → s.dim.h ≡ item.layout.height → channels_of s.kind ≡ item.layout.channels →
      top_of s.depth ≡ white_of item.layout.bits
      → shape_of (picture_in bytes item) ≡ s
  unfolding picture_in
  picture_shape s w h channels top = shape_is (seen (bytes item.source) item.layout) s (same_dim _ s.dim (sym w) (sym h)) (sym channels)
      (sym top)

  pub picture_source : All (λ b. b ≤ 255) (bytes item.source) → (kind : Kind) → channels_of kind ≡ item.layout.channels → (d : Dim) →
      d.w ≡ item.layout.width → d.h ≡ item.layout.height
      → IsReadable d → IsSource (picture_in bytes item)
  unfolding picture_in
  picture_source all kind channels d w h limits =
      seen_source (bytes item.source) item.layout d all (subst (λ n. (n ≡ 1) ⊎ (n ≡ 3)) channels (one_or_three kind)) w h limits

  -- and what a shape says of its layout
  pub picture_dim : (s : Shape) → shape_of (picture_in bytes item) ≡ s → s.dim ≡ layouts.dim_of item.layout
  unfolding picture_in
  picture_dim s shape = ap (λ (u : Shape). u.dim) (sym shape)

  pub picture_kind : (s : Shape) → shape_of (picture_in bytes item) ≡ s → IsSource (picture_in bytes item) →
      channels_of s.kind ≡ item.layout.channels
  unfolding picture_in
  picture_kind s shape source = ap (λ (u : Shape). channels_of u.kind) (sym shape) ∙
      kind_with_channels item.layout.channels source.whole.channels

  pub picture_depth : (s : Shape) → shape_of (picture_in bytes item) ≡ s → IsSource (picture_in bytes item) →
      top_of s.depth ≡ white_of item.layout.bits
  unfolding picture_in
  picture_depth s shape source = ap (λ (u : Shape). top_of u.depth) (sym shape) ∙
      depth_with_top (white_of item.layout.bits) source.whole.top

  pub picture_shows : item.layout ≡ scheme (bytes item.source) → IsSource (picture_in bytes item) →
      Shows (bytes item.source) (picture_in bytes item)
  unfolding picture_in
  picture_shows e p = seen_shows (bytes item.source) item.layout e p

-- two tiles are equal in one way
pub tile_val_prop : (v w : TileVal) → IsProp (v ≡ w)
tile_val_prop v w = hlevel props

pub tile_is : (shows : Pictures) (k : TileKey) (p : Picture) (s : Shape) (v : TileVal) → shows k.name ≡ Some p → shape_of p ≡ s →
    v.raster ≡ crop p (tile_of s.dim k)
    → v ≡ tile_meaning shows k
tile_is shows k p s v known shape made =
    let is : named shows k.name ≡ p = ap (λ (o : Option Picture). unwrap_or o no_picture) known in
    ap (λ (r : Picture). let t : TileVal = record { raster = r } in t)
    (made ∙ ap (λ (u : Shape). crop p (tile_of u.dim k)) (sym shape) ∙ ap (λ (q : Picture). crop q (tile_of (dim_of q) k)) (sym is))
