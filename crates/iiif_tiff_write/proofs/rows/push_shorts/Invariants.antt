use Rattle.std.proofs.Common.{◌≡◌, ◌+◌, ◌*◌, ◌++◌, take}
use Rattle.std.specs.Prelude.{vec_len, vec_capacity}
use Rattle.std.specs.Int.{to_le_bytes, w16}
use Rattle.std.specs.List.{flat_map}
use Rattle.iiif_tiff_write.proofs.rows.push_shorts.Given as goal

abbrev pub invariant-loop-sample : goal.invariant-loop-sample
invariant-loop-sample l = record {
  bytes : l.out.items ≡ l.fn.out.items ++ flat_map (to_le_bytes w16) (take l.sample-index l.samples);
  len : vec_len l.out ≡ vec_len l.fn.out + 2 * l.sample-index;
  capacity : vec_capacity l.out ≡ vec_capacity l.fn.out;
}
