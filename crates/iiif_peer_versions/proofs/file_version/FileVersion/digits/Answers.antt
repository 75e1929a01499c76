use Rattle.std.proofs.Common.{◌∙◌, ◌-◌, arith}
use Rattle.std.proofs.lemmas.List.{length-set}
use Rattle.iiif_peer_versions.proofs.DigitLemmas.{all_told, one_more}
use Rattle.iiif_peer_versions.proofs.file_version.FileVersion.digits.Goals as goal

pub loop-at-preserved : goal.loop-at-preserved
loop-at-preserved c =
    let before = c.loop-at.invariant in (
      length-set c.loop-at.digits (c.loop-at.at - 1) c.hex_digit.result ∙ before.0,
      omega (arith, before.1),
      one_more c.loop-at.at c.loop-at.left c.loop-at.digits _ c.hex_digit.result c.loop-at-test.true (omega (arith, before.0, before.1))
          c.hex_digit.ensures before.2,
    )

pub returns : goal.returns
returns c = all_told c.loop-at.at c.loop-at.left c.loop-at.digits _ (omega (arith, c.loop-at-test.false)) c.loop-at.invariant.2
