-- Pictures that the files of a quality hold.
use Rattle.std.proofs.Common.{◌≡◌, ◌+◌, ◌/◌, ◌⊎◌, refl, nat_lt}
use Rattle.std.proofs.lemmas.Bool.{cases_cond}
use Rattle.iiif_pixel.specs.Picture.{Picture, IsWhole}
use Rattle.iiif_pixel.specs.Operations.{gray, bitonal, gray_at, quality}
use Rattle.iiif_pixel.proofs.Whole.{All-samples_of, whole_gray, whole_bitonal}
use Rattle.iiif_pixel.specs.declared.geometry.Depth.{Depth}
use Rattle.iiif_pixel.specs.declared.geometry.Depth.TheVariants as depths
use Rattle.iiif_pixel.specs.declared.geometry.Kind.{Kind}
use Rattle.iiif_pixel.specs.declared.geometry.Kind.TheVariants as source
use Rattle.iiif_pixel.specs.declared.geometry.Quality.{Quality}
use Rattle.iiif_pixel.specs.declared.geometry.Quality.TheVariants as qualities
use Rattle.iiif_tiff_write.specs.declared.kind.OutKind.TheVariants.{Bitonal}
use Rattle.iiif_tiff_write.specs.OutKind.{kind_of, out_kind_of}
use Rattle.iiif_tiff_write.specs.Reading.{Holds, IsOf}

-- A file of bits holds each picture in black and white.
Holds_bitonal : (p : Picture) → Holds Bitonal (bitonal p)
Holds_bitonal p = record {
  whole = whole_bitonal p;
  top = refl;
  channels = refl;
  samples = All-samples_of (λ v. (v ≡ 0) ⊎ (v ≡ 255)) p.width p.height 1 _
      (λ x y k lx ly lk. cases_cond (nat_lt (gray_at p x y k) ((p.top + 1) / 2)) 0 255 _ refl);
}

-- A file of a picture's own kind holds it.
Holds_own : (k : Kind) (d : Depth) (p : Picture) → IsOf k d p → Holds (kind_of k d) p
Holds_own source.Gray depths.Eight p is = record { whole = is.whole; top = is.top; channels = is.channels; samples = tt }
Holds_own source.Rgb depths.Eight p is = record { whole = is.whole; top = is.top; channels = is.channels; samples = tt }
Holds_own source.Gray depths.Sixteen p is = record { whole = is.whole; top = is.top; channels = is.channels; samples = tt }
Holds_own source.Rgb depths.Sixteen p is = record { whole = is.whole; top = is.top; channels = is.channels; samples = tt }

-- A picture in gray is of kind gray, and of its own depth.
IsOf_gray : (k : Kind) (d : Depth) (p : Picture) → IsOf k d p → IsOf source.Gray d (gray p)
IsOf_gray k d p is = record { whole = whole_gray p is.whole; top = is.top; channels = refl }

-- A file of a quality's kind holds each picture in that quality.
pub Holds_quality : (k : Kind) (d : Depth) (q : Quality) (p : Picture) → IsOf k d p → Holds (out_kind_of k d q) (quality p q)
Holds_quality k d qualities.Default p is = Holds_own k d p is
Holds_quality k d qualities.Color p is = Holds_own k d p is
Holds_quality k d qualities.Gray p is = Holds_own source.Gray d (gray p) (IsOf_gray k d p is)
Holds_quality k d qualities.Bitonal p is = Holds_bitonal p
