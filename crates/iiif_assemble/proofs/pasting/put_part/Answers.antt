use Rattle.std.proofs.Common.{◌∙◌, ◌+◌, ◌*◌, List, length, ap, sym}
use Rattle.iiif_pixel.specs.Picture.{with_span}
use Rattle.iiif_assemble.proofs.PasteLemmas.{length-span_of, copies_row}
use Rattle.iiif_assemble.proofs.pasting.put_part.Goals as goal

pub put_span-requires-clause-len : goal.put_span-requires-clause-len
put_span-requires-clause-len c =
    ap (λ (s : List _). length s) c.span-run.ensures.samples ∙
    length-span_of c.args.tile.now c.args.corner.0 (c.args.corner.1 + c.loop-row.row) c.args.part.w
    ∙ ap (λ n. c.args.part.w * n) (c.requires.channels ∙ sym c.loop-row.invariant.channels)

pub loop-row-preserved : goal.loop-row-preserved
loop-row-preserved c =
    copies_row c.args.part c.args.corner c.args.tile.now c.args.picture.now c.loop-row.picture c.put_span.new.self c.loop-row.row
    c.loop-row.invariant
    c.is_whole.ensures.whole.count c.loop-row-test.true c.requires.inside c.requires.channels
    (c.put_span.ensures ∙ ap (with_span c.loop-row.picture c.args.part.x (c.args.part.y + c.loop-row.row)) c.span-run.ensures.samples)
