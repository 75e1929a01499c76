-- The samples of a rectangle make the crop of the picture that a file shows.
use Rattle.std.proofs.Common.{◌≡◌, ℕ, ◌+◌, ◌*◌, ◌<◌, List, length, get_or, refl, sym, ap, ◌∙◌, arith}
use Rattle.iiif_pixel.specs.Geometry.{channels_of, top_of, LiesIn}
use Rattle.iiif_pixel.specs.Picture.{Picture, samples_of}
use Rattle.iiif_pixel.specs.Operations.{crop, crop_at}
use Rattle.iiif_pixel.specs.RasterPicture.{raster_picture}
use Rattle.iiif_pixel.specs.declared.geometry.Depth.{Depth}
use Rattle.iiif_pixel.specs.declared.geometry.Kind.{Kind}
use Rattle.iiif_pixel.specs.declared.geometry.Rect.{Rect}
use Rattle.iiif_pixel.proofs.SampleLists.{samples_from_places}
use Rattle.iiif_tiff.specs.Tiff.{Scheme, scheme, shown, white_of, Shows}
use Rattle.iiif_tiff_read.specs.Layouts.{dim_of}
use Rattle.iiif_tiff_read.specs.Code.{HoldsShown}

abbrev same_picture : Picture → Picture → Type 0
same_picture p q = p ≡ q

-- Samples that are those shown make the crop of the picture.
pub crop_of_samples : (bytes samples : List ℕ) (s : Scheme) (r : Rect) (kind : Kind) (depth : Depth) (p : Picture) → Shows bytes p →
    s ≡ scheme bytes → channels_of kind ≡ s.channels → top_of depth ≡ white_of s.bits → LiesIn r (dim_of s) →
    length samples ≡ r.w * r.h * channels_of kind
    → HoldsShown bytes s r samples
    → same_picture (raster_picture (record { w = r.w; h = r.h }) kind depth samples) (crop p r)
unfolding crop_at
crop_of_samples bytes samples s r kind depth p shows s-is kind-is depth-is inside len read =
    let w-is : p.width ≡ s.width = shows.width_is ∙ rw s-is refl in
    let h-is : p.height ≡ s.height = shows.height_is ∙ rw s-is refl in
    let c-is : p.channels ≡ channels_of kind = shows.channels_is ∙ rw s-is refl ∙ sym kind-is in
    let samples-are : samples ≡ samples_of r.w r.h (channels_of kind) (crop_at p r) =
    samples_from_places r.w r.h (channels_of kind) samples (crop_at p r) len (λ x y k xw yh kc.
    let place : r.x + x < p.width = omega (arith, inside.columns, w-is) in
    let there : r.y + y < p.height = omega (arith, inside.rows, h-is) in
    let channel : k < p.channels = omega (arith, c-is) in
    let channel' : k < s.channels = omega (arith, kind-is) in
    ap (λ (c : ℕ). get_or samples ((y * r.w + x) * c + k) 0) kind-is ∙ read x y k xw yh channel' ∙
    ap (λ (t : Scheme). shown bytes t (r.x + x) (r.y + y) k) s-is ∙ sym (shows.places (r.x + x) (r.y + y) k place there channel)) in
    let top-is : p.top ≡ top_of depth = shows.top_is ∙ rw s-is refl ∙ sym depth-is in
    rw (samples-are, top-is, c-is) refl
