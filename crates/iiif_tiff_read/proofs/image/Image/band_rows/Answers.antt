use Rattle.std.proofs.Common.{◌+◌, arith}
use Rattle.iiif_tiff_read.specs.Images.{image_units}
use Rattle.iiif_tiff_read.proofs.Places.{piece_even, columns_even}
use Rattle.iiif_tiff_read.proofs.image.Image.band_rows.Goals as goal

pub returns-then-rect-self-clause-even : goal.returns-then-rect-self-clause-even
returns-then-rect-self-clause-even c = λ x lt.
    columns_even (image_units c.args.self.now) c.args.rect.x x _ _ c.args.self.now.sound.piece_width.0 (omega (
      arith,
      c.if-rect-self.true,
      lt,
    ))
    c.even_rows.ensures.even

pub returns-else-rect-gt0-clause-even : goal.returns-else-rect-gt0-clause-even
returns-else-rect-gt0-clause-even c = λ x lt.
    piece_even (image_units c.args.self.now) (c.args.rect.x + x) _ _ c.args.self.now.sound.piece_height.0
    (omega (arith, c.min.ensures, c.left_of_piece.ensures.left))
