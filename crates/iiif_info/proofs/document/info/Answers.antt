use Rattle.std.proofs.Common.{arith}
use Rattle.std.specs.Prelude.{string_bytes}
use Rattle.iiif_info.proofs.TextLemmas.{information_same, text_written}
use Rattle.iiif_info.proofs.document.info.Goals as goal

pub returns : goal.returns
returns c =
    text_written string_bytes _ _ _ _ c.args.base.now c.args.id.now c.args.dim c.args.limits.now c.args.edge
    (information_same _ _ _ c.args.dim _ _ c.args.edge c.in_ok-information.ensures (omega arith) (omega arith) (omega arith))
    c.deref.ensures c.in_ok-uri.ensures c.to_string.ensures.text
