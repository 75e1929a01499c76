-- Lemmas on shapes of pictures, and on the test of a value's shape.
use Rattle.std.proofs.Common.{◌≡◌, ℕ, Bool, true, false, ◌&&◌, ◌⊎◌, refl, sym, ap, subst, ◌∙◌, ⊎_elim, ◌≤◌, arith}
use Rattle.std.specs.Prelude.{◌↔◌, ◌==◌, IsTrue}
use Rattle.std.proofs.lemmas.Bool.Decides.{Decides-eqb}
use Rattle.iiif_pixel.specs.Geometry.{channels_of, top_of}
use Rattle.iiif_pixel.specs.Picture.{Picture, dim_of, IsWhole}
use Rattle.iiif_pixel.specs.declared.geometry.Dim.{Dim}
use Rattle.iiif_pixel.specs.declared.geometry.Rect.{Rect}
use Rattle.iiif_pixel.specs.declared.geometry.Kind.{Kind}
use Rattle.iiif_pixel.specs.declared.geometry.Kind.TheVariants.{Gray, Rgb}
use Rattle.iiif_pixel.specs.declared.geometry.Depth.{Depth}
use Rattle.iiif_pixel.specs.declared.geometry.Depth.TheVariants.{Eight, Sixteen}
use Rattle.iiif_pixel.proofs.Parts.{same_rect}
use Rattle.iiif_keys.specs.declared.keys.Shape.{Shape}
use Rattle.iiif_keys.specs.declared.keys.TileKey.{TileKey}
use Rattle.iiif_keys.specs.declared.keys.SumKey.{SumKey}
use Rattle.iiif_keys.specs.declared.values.TileVal.{TileVal}
use Rattle.iiif_keys.specs.declared.values.SumVal.{SumVal}
use Rattle.iiif_keys.specs.Names.{Pictures, named}
use Rattle.iiif_keys.specs.Shapes.{kind_with, depth_with, shape_of, HasPicture}
use Rattle.iiif_keys.specs.Blocks.{tile_of, places_in}
use Rattle.iiif_keys.specs.Meaning.{tile_is_shaped, sum_is_shaped, TileHasShape, SumHasShape}

-- The kind with 1 or 3 channels has these channels.
pub kind_with_channels : (n : ℕ) → (n ≡ 1) ⊎ (n ≡ 3) → channels_of (kind_with n) ≡ n
kind_with_channels n h = ⊎_elim
    (λ (e : n ≡ 1). ap (λ (m : ℕ). channels_of (kind_with m)) e ∙ sym e)
    (λ (e : n ≡ 3). ap (λ (m : ℕ). channels_of (kind_with m)) e ∙ sym e)
    h

-- The kind with the channels of a kind is that kind.
pub kind_with_its_channels : (k : Kind) → kind_with (channels_of k) ≡ k
kind_with_its_channels Gray = refl
kind_with_its_channels Rgb = refl

-- The depth with a greatest sample of 255 or 65,535 has this greatest sample.
pub depth_with_top : (n : ℕ) → (n ≡ 255) ⊎ (n ≡ 65535) → top_of (depth_with n) ≡ n
depth_with_top n h = ⊎_elim
    (λ (e : n ≡ 255). ap (λ (m : ℕ). top_of (depth_with m)) e ∙ sym e)
    (λ (e : n ≡ 65535). ap (λ (m : ℕ). top_of (depth_with m)) e ∙ sym e)
    h

-- The depth with the greatest sample of a depth is that depth.
pub depth_with_its_top : (d : Depth) → depth_with (top_of d) ≡ d
depth_with_its_top Eight = refl
depth_with_its_top Sixteen = refl

-- A kind has at most three channels.
pub three_at_most : (k : Kind) → channels_of k ≤ 3
three_at_most Gray = omega arith
three_at_most Rgb = omega arith

-- A picture with the sides, the channels and the greatest sample of a shape is of that shape.
pub shape_is : (p : Picture) (s : Shape) → dim_of p ≡ s.dim → p.channels ≡ channels_of s.kind → p.top ≡ top_of s.depth → shape_of p ≡ s
shape_is p s sides channels top =
    let kind : kind_with p.channels ≡ s.kind = ap (λ (n : ℕ). kind_with n) channels ∙ kind_with_its_channels s.kind in
    let depth : depth_with p.top ≡ s.depth = ap (λ (n : ℕ). depth_with n) top ∙ depth_with_its_top s.depth in
    let made : Dim → Kind → Depth → Shape = λ d k e. record { dim = d; kind = k; depth = e } in
    ap (λ (d : Dim). made d (kind_with p.channels) (depth_with p.top)) sides ∙
    (ap (λ (k : Kind). made s.dim k (depth_with p.top)) kind ∙ ap (λ (e : Depth). made s.dim s.kind e) depth)

-- A fact of a shape's sides and channels is one of each picture of that shape.
pub fits_picture : (P : Dim → ℕ → Type 0) (p : Picture) (s : Shape) → shape_of p ≡ s → IsWhole p → P s.dim (channels_of s.kind) →
    P (dim_of p) p.channels
fits_picture P p s shape whole h =
    let own : P (dim_of p) (channels_of (kind_with p.channels)) = subst (λ (t : Shape). P t.dim (channels_of t.kind)) (sym shape) h in
    subst (λ (n : ℕ). P (dim_of p) n) (kind_with_channels p.channels whole.channels) own

-- A conjunction of tests stands for the conjunction of their facts.
both : (a b : Bool) (P Q : Type 0) → (IsTrue a ↔ P) → (IsTrue b ↔ Q) → IsTrue (a && b) ↔ (P × Q)
both true b P Q f g = (λ h. (f.0 refl, g.0 h), λ h. g.1 h.1)
both false b P Q f g = (λ h. absurd cc, λ h. absurd (let t = f.1 h.0 in cc))

-- The test of equal numbers stands for their equality.
same : (a b : ℕ) → IsTrue (a == b) ↔ (a ≡ b)
same a b = Decides-eqb a b

-- The test of a tile's shape stands for the shape of the named picture.
tile_test : (shows : Pictures) (k : TileKey) (v : TileVal) →
    IsTrue (tile_is_shaped shows k v) ↔ TileHasShape (shape_of (named shows k.name)) k v
unfolding tile_is_shaped
tile_test shows k v =
    let s = shape_of (named shows k.name) in
    let at = tile_of s.dim k in
    let test = both (v.raster.width == at.w) _ _ _ (same _ _) (both (v.raster.height == at.h) _ _ _ (same _ _)
    (both (v.raster.channels == channels_of s.kind) (v.raster.top == top_of s.depth) _ _ (same _ _) (same _ _))) in (
      λ t. let h = test.0 t in record { width = h.0; height = h.1.0; samples = h.1.1.0; depth = h.1.1.1 },
      λ h.
          test.1 (h.width, (h.height, (h.samples, h.depth))),
    )

-- The test of a tile's shape stands for the shape, where the name has a picture of it.
pub tile_shaped : (shows : Pictures) (s : Shape) (k : TileKey) (v : TileVal) → HasPicture shows k.name s →
    IsTrue (tile_is_shaped shows k v) ↔ TileHasShape s k v
tile_shaped shows s k v has = subst (λ (u : Shape). IsTrue (tile_is_shaped shows k v) ↔ TileHasShape u k v) has.shape (tile_test shows k v)

-- The test of sums' shape stands for the shape of the named picture.
sum_test : (shows : Pictures) (k : SumKey) (v : SumVal) → IsTrue (sum_is_shaped shows k v) ↔ SumHasShape (shape_of (named shows k.name)) k v
unfolding sum_is_shaped
sum_test shows k v =
    let s = shape_of (named shows k.name) in
    let at = places_in s.dim k in
    let r = v.sums.rect in
    let rect = both (r.x == at.x) _ _ _ (same _ _)
    (both (r.y == at.y) _ _ _ (same _ _) (both (r.w == at.w) (r.h == at.h) _ _ (same _ _) (same _ _))) in
    let test = both (r.x == at.x && (r.y == at.y && (r.w == at.w && r.h == at.h))) (v.sums.channels == channels_of s.kind) _ _ rect
    (same _ _) in (
      λ t. let h = test.0 t in record { places = same_rect r at h.0.0 h.0.1.0 h.0.1.1.0 h.0.1.1.1; sums_a_place = h.1 },
      λ h. let e = h.places in
          test.1 (
            (ap (λ (x : Rect). x.x) e, (ap (λ (x : Rect). x.y) e, (ap (λ (x : Rect). x.w) e, ap (λ (x : Rect). x.h) e))),
            h.sums_a_place,
          ),
    )

-- The test of sums' shape stands for the shape, where the name has a picture of it.
pub sum_shaped : (shows : Pictures) (s : Shape) (k : SumKey) (v : SumVal) → HasPicture shows k.name s →
    IsTrue (sum_is_shaped shows k v) ↔ SumHasShape s k v
sum_shaped shows s k v has = subst (λ (u : Shape). IsTrue (sum_is_shaped shows k v) ↔ SumHasShape u k v) has.shape (sum_test shows k v)

-- Two tests of one fact are equal.
pub same_test : (result test : Bool) (P : Type 0) → (IsTrue result ↔ P) → (IsTrue test ↔ P) → IsTrue result ↔ IsTrue test
same_test result test P f g = (λ t. g.1 (f.0 t), λ t. f.1 (g.0 t))
