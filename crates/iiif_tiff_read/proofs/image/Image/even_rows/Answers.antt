use Rattle.std.proofs.Common.{◌≡◌, ℕ, ◌+◌, ◌*◌, ◌%◌, ◌<◌, refl, sym, ap, ◌∙◌, arith}
use Rattle.iiif_tiff.specs.Tiff.{row_bytes}
use Rattle.iiif_tiff_read.specs.Code.{row_place}
use Rattle.iiif_tiff_read.specs.Images.{image_units}
use Rattle.iiif_tiff_read.proofs.Places.{piece_even, even_below, piece_ends}
use Rattle.iiif_tiff_read.proofs.image.Image.even_rows.Goals as goal

pub loop-rows-init : goal.loop-rows-init
loop-rows-init c =
    let s = image_units c.args.self.now in (
      omega (arith, c.min-rows.ensures, c.left_of_piece.ensures.some, c.requires.some),
      omega (arith, c.min-rows.ensures),
      piece_even s c.args.x c.args.y c.min-rows.result c.args.self.now.sound.piece_height.0
          (omega (arith, c.min-rows.ensures, c.left_of_piece.ensures.left)),
      λ more. piece_ends c.args.y s.piece_height c.min-rows.result c.args.self.now.sound.piece_height.0
          (omega (arith, c.min-rows.ensures, more, c.left_of_piece.ensures.left)),
    )

pub loop-rows-preserved : goal.loop-rows-preserved
loop-rows-preserved c =
    let s = image_units c.args.self.now in
    let m = c.loop-rows.rows in
    let d = c.min-rows-in-loop-rows.result in
    let some : 0 < s.piece_height = c.args.self.now.sound.piece_height.0 in
    let begins : (c.args.y + m) % s.piece_height ≡ 0 = c.loop-rows.invariant.3 c.loop-rows-test.true in
    let joins : row_place s c.args.x (c.args.y + m) ≡ row_place s c.args.x c.args.y + m * row_bytes s
    = sym c.row_place.ensures.place ∙ c.if-row_place-first.true ∙
    rw (c.row_place-first.ensures.place, c.row_bytes-stride.ensures.bytes) refl in (
      omega (arith, c.loop-rows.invariant.0),
      omega (arith, c.min-rows-in-loop-rows.ensures, c.loop-rows-test.true),
      even_below s c.args.x c.args.y m d some (omega (arith, c.min-rows-in-loop-rows.ensures)) begins c.loop-rows.invariant.2 joins,
      λ more. ap (λ (k : ℕ). k % s.piece_height) (omega arith) ∙
          piece_ends (c.args.y + m) s.piece_height d some (omega (arith, begins, c.min-rows-in-loop-rows.ensures, more)),
    )
