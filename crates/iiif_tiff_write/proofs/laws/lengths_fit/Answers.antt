use Rattle.std.proofs.Common.{arith}
use Rattle.iiif_tiff_write.proofs.Lengths.{file_small}
use Rattle.iiif_tiff_write.proofs.laws.lengths_fit.Goals as goal

pub returns : goal.returns
returns c = record {
  in_32_bits = λ k d lw lh. omega (arith, file_small k d 16384 lw lh);
  in_64_bits = λ k d lw lh. omega (arith, file_small k d 1000000 lw lh);
}
