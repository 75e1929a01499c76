use Rattle.std.proofs.Common.{refl}
use Rattle.iiif_tiff.specs.Tiff.{gray_sample}
use Rattle.iiif_examples.specs.Files.{tiled_ramp}
use Rattle.iiif_examples.proofs.Computing.{files}
use Rattle.iiif_examples.proofs.Shown.{shows_picture_in}
use Rattle.iiif_examples.proofs.files.samples_stand_where_the_file_says.Goals as goal

pub returns-clause-strip : goal.returns-clause-strip
unfolding files
returns-clause-strip c = shows_picture_in gray_sample refl refl

pub returns-clause-tiles : goal.returns-clause-tiles
unfolding files
returns-clause-tiles c = shows_picture_in tiled_ramp refl refl
