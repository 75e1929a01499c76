use Rattle.std.proofs.Common.{◌≡◌, ◌+◌, ◌++◌}
use Rattle.std.specs.Prelude.{vec_len, vec_capacity}
use Rattle.iiif_tiff_write.specs.Code.{packed_bytes}
use Rattle.iiif_tiff_write.proofs.rows.pack_row.Given as goal

abbrev pub invariant-loop-j : goal.invariant-loop-j
invariant-loop-j l = record {
  bytes : l.out.items ≡ l.fn.out.items ++ packed_bytes l.samples l.j;
  len : vec_len l.out ≡ vec_len l.fn.out + l.j;
  capacity : vec_capacity l.out ≡ vec_capacity l.fn.out;
}
