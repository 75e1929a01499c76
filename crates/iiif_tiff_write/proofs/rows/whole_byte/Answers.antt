use Rattle.std.proofs.Common.{◌≡◌, ℕ, ◌+◌, ◌<◌, length, ltb, true, refl, arith}
use Rattle.std.proofs.lemmas.Bool.{lt-ltb}
use Rattle.iiif_tiff_write.specs.Code.{byte_from}
use Rattle.iiif_tiff_write.proofs.rows.whole_byte.Goals as goal

pub returns : goal.returns
unfolding byte_from
returns c =
    let first : c.args.i + 0 ≡ c.args.i = omega arith in
    let inside : (b : ℕ) → b < 8 → ltb (c.args.i + b) (length c.args.samples.now) ≡ true = λ b l. lt-ltb _ _ (omega arith) in
    let start : ltb c.args.i (length c.args.samples.now) ≡ true = lt-ltb _ _ (omega arith) in
    rw (
      first,
      start,
      inside 1 (omega arith),
      inside 2 (omega arith),
      inside 3 (omega arith),
      inside 4 (omega arith),
      inside 5 (omega arith),
      inside 6 (omega arith),
      inside 7 (omega arith),
      c.white_bit.ensures,
      c.white_bit-2.ensures,
      c.white_bit-3.ensures,
      c.white_bit-4.ensures,
      c.white_bit-5.ensures,
      c.white_bit-6.ensures,
      c.white_bit-7.ensures,
      c.white_bit-8.ensures,
    ) refl
