use Rattle.std.proofs.Common.{◌≡◌, List, ℕ, ◌++◌, refl, take, drop}
use Rattle.iiif_pixel.specs.Picture.{dim_of}
use Rattle.iiif_pixel.specs.declared.geometry.Dim.{Dim}
use Rattle.iiif_tiff_write.specs.declared.kind.OutKind.{OutKind}
use Rattle.iiif_tiff_write.specs.declared.kind.OutKind.TheVariants.{Gray, Rgb, Bitonal, Gray16, Rgb16}
use Rattle.iiif_tiff_write.specs.File.{head_of, rational, strip}
use Rattle.iiif_tiff_write.proofs.laws.resolutions_stand.Goals as goal

across : (k : OutKind) (d : Dim) (s : List ℕ) → take 8 (drop 158 (head_of k d ++ s)) ≡ rational 1 1
unfolding head_of
across Gray d s = refl
across Rgb d s = refl
across Bitonal d s = refl
across Gray16 d s = refl
across Rgb16 d s = refl

down : (k : OutKind) (d : Dim) (s : List ℕ) → take 8 (drop 166 (head_of k d ++ s)) ≡ rational 1 1
unfolding head_of
down Gray d s = refl
down Rgb d s = refl
down Bitonal d s = refl
down Gray16 d s = refl
down Rgb16 d s = refl

pub returns : goal.returns
returns c = λ p k. (across k (dim_of p) (strip k p), down k (dim_of p) (strip k p))
