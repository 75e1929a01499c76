use Rattle.std.proofs.Common.{◌≡◌, ◌+◌, refl, arith}
use Rattle.iiif_tiff_write.specs.Code.{byte_from}
use Rattle.iiif_tiff_write.proofs.rows.last_byte.Goals as goal

pub returns : goal.returns
unfolding byte_from
returns c =
    let first : c.args.i + 0 ≡ c.args.i = omega arith in
    rw (
      first,
      c.bit.ensures.value,
      c.bit-2.ensures.value,
      c.bit-3.ensures.value,
      c.bit-4.ensures.value,
      c.bit-5.ensures.value,
      c.bit-6.ensures.value,
      c.bit-7.ensures.value,
      c.bit-8.ensures.value,
    ) refl
