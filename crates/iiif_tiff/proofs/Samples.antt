-- Lemmas on shown samples: WhiteIsZero, and four files that were read by hand.
use Rattle.std.proofs.Common.{refl}
use Rattle.iiif_pixel.specs.Picture.{samples_of, row_of}
use Rattle.iiif_tiff.specs.Tiff as tiff
use Rattle.iiif_tiff.specs.Tiff.{ShowsInverted, SampleIsShown, ShowsSamples, gray_sample, bilevel_sample, low_first_sample}
use Rattle.iiif_tiff.specs.Tiff.{high_first_sample, shown}

-- WhiteIsZero shows a sample counted down from white.
pub inverted : ShowsInverted
unfolding shown
inverted bytes s x y k = refl

-- Each of the four files shows the samples that a person read in it.
pub read_by_hand : SampleIsShown
unfolding gray_sample bilevel_sample low_first_sample high_first_sample shown samples_of row_of tiff.refusal_of tiff.opening tiff.header
    tiff.directory_fits tiff.sides tiff.samples tiff.grid tiff.pieces_fit tiff.needed tiff.optional tiff.only tiff.entry_fits tiff.entry
    tiff.entries tiff.entry_of tiff.value tiff.value_or tiff.values_or tiff.samples_per_pixel tiff.bits_per_sample tiff.photometric
    tiff.planar_configuration tiff.extra_samples tiff.sample_format tiff.tile_side tiff.tile_grid tiff.strip_grid tiff.piece
    tiff.piece_bytes tiff.first
read_by_hand = ((refl, refl, refl, refl), (refl, refl, refl, refl), (refl, refl, refl, refl), (refl, refl, refl, refl))
