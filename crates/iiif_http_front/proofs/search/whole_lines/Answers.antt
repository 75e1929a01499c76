use Rattle.iiif_http_front.proofs.LineLemmas.{line_passed, all_passed}
use Rattle.iiif_http_front.proofs.search.whole_lines.Goals as goal

pub loop-byte-preserved : goal.loop-byte-preserved
loop-byte-preserved c =
    line_passed _ _ c.args.bytes.now c.loop-byte.byte-index _ _ c.loop-byte-test.true c.ended_lines-lines.ensures c.has_begun-begun.ensures
    c.loop-byte.invariant.0 c.loop-byte.invariant.1

pub returns : goal.returns
returns c = all_passed _ c.args.bytes.now c.loop-byte.byte-index _ c.loop-byte-test.false c.loop-byte.invariant.0
