use Rattle.std.proofs.Common.{◌+◌, ◌%◌, ◌<◌, arith}
use Rattle.std.proofs.lemmas.Nat.{mod_below}
use Rattle.iiif_tiff_read.specs.declared.part.Part.{Part}
use Rattle.iiif_tiff_read.specs.Code.{IsPart}
use Rattle.iiif_tiff_read.specs.Images.{image_units}
use Rattle.iiif_tiff_read.proofs.Places.{filled_part}
use Rattle.iiif_tiff_read.proofs.image.Image.fill.Goals as goal

pub read_part-requires-clause-part : goal.read_part-requires-clause-part
read_part-requires-clause-part g c =
    let s = image_units c.args.self.now in
    let x-below : (c.args.rect.x + c.loop-left.left) % s.piece_width < s.piece_width =
    mod_below (c.args.rect.x + c.loop-left.left) s.piece_width c.args.self.now.sound.piece_width.0 in
    record {
      inside = c.requires.inside;
      columns = omega (arith, c.min-columns.ensures, c.loop-left-test.true);
      rows = c.band_rows-rows.ensures.most;
      columns_some = omega (arith, c.min-columns.ensures, c.loop-left-test.true, x-below);
      rows_some = c.band_rows-rows.ensures.some;
      piece_columns = omega (arith, c.min-columns.ensures, x-below);
      even = c.band_rows-rows.ensures.even c.loop-left.left c.loop-left-test.true;
    }

pub loop-left-preserved : goal.loop-left-preserved
loop-left-preserved g c =
    let s = image_units c.args.self.now in
    let p : Part = record { left = c.loop-left.left; top = c.loop-top.top; columns = c.min-columns.result; rows = c.band_rows-rows.result }
    in
    let x-below : (c.args.rect.x + c.loop-left.left) % s.piece_width < s.piece_width =
    mod_below (c.args.rect.x + c.loop-left.left) s.piece_width c.args.self.now.sound.piece_width.0 in
    let part : IsPart s c.args.rect p = record {
      inside = c.requires.inside;
      columns = omega (arith, c.min-columns.ensures, c.loop-left-test.true);
      rows = c.band_rows-rows.ensures.most;
      columns_some = omega (arith, c.min-columns.ensures, c.loop-left-test.true, x-below);
      rows_some = c.band_rows-rows.ensures.some;
      piece_columns = omega (arith, c.min-columns.ensures, x-below);
      even = c.band_rows-rows.ensures.even c.loop-left.left c.loop-left-test.true;
    } in (
      part.columns,
      λ keeps. filled_part (g.S.Source.bytes c.args.source.now) c.loop-left.samples c.read_part.new.samples s c.args.rect p
          c.args.self.now.sound
          part (c.in_ok-read_part.ensures.held keeps) c.in_ok-read_part.ensures.rest (c.loop-left.invariant.1 keeps),
    )
