use Rattle.std.proofs.Common.{refl}
use Rattle.iiif_tiff_read.proofs.Bytes.{entries_push, entry_decoded}
use Rattle.iiif_tiff_read.specs.Code.{endian}
use Rattle.iiif_tiff_read.proofs.entry.decode_entries.Goals as goal

pub loop-i-preserved : goal.loop-i-preserved
loop-i-preserved c = λ file start order-is bytes-is.
    rw c.in_ok-push.ensures.items (entries_push file start c.loop-i.i c.loop-i.entries.items c.decode.result
    (c.loop-i.invariant file start order-is bytes-is)
    (entry_decoded c.decode.result (endian c.args.order) file c.args.bytes.now _ start c.args.count c.loop-i.i refl bytes-is
    c.loop-i-test.true
    order-is
    c.decode.ensures.tag c.decode.ensures.kind c.decode.ensures.count c.decode.ensures.inside))
