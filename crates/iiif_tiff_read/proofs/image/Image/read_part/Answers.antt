use Rattle.std.proofs.Common.{◌+◌, ◌%◌, length, arith}
use Rattle.std.proofs.lemmas.Nat.{mul-le, mod_below}
use Rattle.iiif_tiff_read.specs.Images.{image_units}
use Rattle.iiif_tiff_read.proofs.Places.{part_in_file, part_in_row, window_fits}
use Rattle.iiif_tiff_read.proofs.image.Image.read_part.Goals as goal

pub read_window-requires-clause-in_file : goal.read_window-requires-clause-in_file
read_window-requires-clause-in_file g c = rw (c.row_place.ensures.place, c.row_bytes.ensures.bytes)
    (part_in_file (image_units c.args.self.now) c.args.cut.rect c.args.cut.part (length (g.S.Source.bytes c.args.source.now))
    c.args.self.now.sound c.requires.in_file c.requires.part)

pub read_window-requires-clause-fits : goal.read_window-requires-clause-fits
read_window-requires-clause-fits g c = rw c.units-units.ensures.units
    (window_fits (image_units c.args.self.now) c.args.cut.rect c.args.cut.part (image_units c.args.self.now).channels
    (length c.args.samples.now) c.requires.part c.requires.length)

pub read_window-requires-clause-in_row : goal.read_window-requires-clause-in_row
read_window-requires-clause-in_row g c = rw (c.units-units.ensures.units, c.unit_bits.ensures, c.row_bytes.ensures.bytes)
    (part_in_row (image_units c.args.self.now) c.args.cut.rect c.args.cut.part c.requires.part)

pub overflow_mul-rows : goal.overflow_mul-rows
overflow_mul-rows g c =
    let x = (c.args.cut.rect.x + c.args.cut.part.left) % c.args.self.now.grid.width in
    let below = mod_below (c.args.cut.rect.x + c.args.cut.part.left) c.args.self.now.grid.width c.args.self.now.sound.piece_width.0 in
    omega (
      arith,
      mul-le x c.units-units.result 1048576 6 (omega (arith, below, c.args.self.now.sound.piece_width.1))
          c.units-units.ensures.bound,
    )

pub overflow_mul-window : goal.overflow_mul-window
overflow_mul-window g c =
    omega (
      arith,
      mul-le c.args.cut.rect.w c.units-units.result 1000000 6
          (omega (arith, c.requires.part.inside.columns, c.args.self.now.sound.sides.width_most)) c.units-units.ensures.bound,
    )

pub overflow_mul-window-2 : goal.overflow_mul-window-2
overflow_mul-window-2 g c =
    omega (
      arith,
      mul-le c.args.cut.part.left c.units-units.result 1000000 6
          (omega (arith, c.requires.part.columns, c.requires.part.inside.columns, c.args.self.now.sound.sides.width_most))
          c.units-units.ensures.bound,
    )

pub overflow_mul-window-3 : goal.overflow_mul-window-3
overflow_mul-window-3 g c =
    omega (
      arith,
      mul-le c.args.cut.part.columns c.units-units.result 1000000 6
          (omega (arith, c.requires.part.columns, c.requires.part.inside.columns, c.args.self.now.sound.sides.width_most))
          c.units-units.ensures.bound,
    )
