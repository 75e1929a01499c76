use Rattle.std.proofs.Common.{◌≡◌, length, arith}
use Rattle.iiif_fixity.proofs.Feeding.{fed_all}
use Rattle.iiif_fixity.proofs.comparing.digest_whole.Goals as goal

pub returns-clause-digest : goal.returns-clause-digest
returns-clause-digest g c =
    let all : c.loop-at.at ≡ length (g.S.Source.bytes c.args.source.now) =
    omega (arith, c.loop-at-test.false, c.loop-at.invariant.within, c.len-len.ensures.length) in
    fed_all (g.S.Source.keeps c.args.source.now) (g.S.Source.bytes c.args.source.now) c.finalize.result c.loop-at.at c.loop-at.hasher
    c.finalize.ensures all c.loop-at.invariant.fed
