use Rattle.std.proofs.Common.{refl, ◌∙◌, arith}
use Rattle.std.proofs.lemmas.Grind.{take-set_at}
use Rattle.std.proofs.lemmas.List.{length-set}
use Rattle.iiif_tiff_read.proofs.Values.{numbers_push}
use Rattle.iiif_tiff_read.specs.Code.{endian, code}
use Rattle.iiif_tiff_read.proofs.up_to_three.UpToThree.decode.Goals as goal

pub loop-i-preserved : goal.loop-i-preserved
loop-i-preserved c = (
  length-set c.loop-i.values c.loop-i.i c.decode.result ∙ c.loop-i.invariant.0,
  take-set_at c.loop-i.values c.loop-i.i _ c.decode.result refl (omega (arith, c.loop-i.invariant.0, c.requires.count, c.loop-i-test.true))
      ∙ numbers_push (endian c.args.order) (code c.args.kind) c.args.bytes.now _ c.loop-i.i c.decode.result c.loop-i.invariant.1
      (rw c.size.ensures at c.decode.ensures),
)
