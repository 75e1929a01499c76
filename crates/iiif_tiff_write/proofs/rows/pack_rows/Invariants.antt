use Rattle.std.proofs.Common.{◌≡◌, ◌+◌, ◌*◌, ◌++◌}
use Rattle.std.specs.Prelude.{vec_len, vec_capacity}
use Rattle.std.specs.Int.{div_ceil}
use Rattle.iiif_tiff_write.specs.Code.{rows_before}
use Rattle.iiif_tiff_write.specs.declared.kind.OutKind.TheVariants.{Bitonal}
use Rattle.iiif_tiff_write.proofs.rows.pack_rows.Given as goal

abbrev pub invariant-loop-y : goal.invariant-loop-y
invariant-loop-y l = record {
  bytes : l.out.items ≡ l.fn.out.items ++ rows_before Bitonal l.raster l.y;
  len : vec_len l.out ≡ vec_len l.fn.out + div_ceil l.raster.width 8 * l.y;
  capacity : vec_capacity l.out ≡ vec_capacity l.fn.out;
}
