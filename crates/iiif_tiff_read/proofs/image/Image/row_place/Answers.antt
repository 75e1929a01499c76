use Rattle.std.proofs.Common.{refl}
use Rattle.iiif_tiff_read.specs.Code.{row_place}
use Rattle.iiif_tiff_read.specs.Images.{image_units}
use Rattle.iiif_tiff_read.proofs.Places.{piece_index}
use Rattle.iiif_tiff_read.proofs.image.Image.row_place.Goals as goal

pub bounds-offsets-above : goal.bounds-offsets-above
bounds-offsets-above c = rw c.as_slice-offsets.ensures.value
    (piece_index (image_units c.args.self.now) c.args.x c.args.y c.args.self.now.sound c.requires.inside.0 c.requires.inside.1)

pub returns-clause-place : goal.returns-clause-place
unfolding row_place
returns-clause-place c = rw (c.as_slice-offsets.ensures.value, c.row_bytes.ensures.bytes) refl
