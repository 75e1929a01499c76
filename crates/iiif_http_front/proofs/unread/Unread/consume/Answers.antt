use Rattle.std.proofs.Common.{◌∙◌, ap, arith, drop}
use Rattle.iiif_http_front.proofs.BufferLemmas.{drop-slice_range, unread_length}
use Rattle.iiif_http_front.proofs.unread.Unread.consume.Goals as goal

pub returns : goal.returns
returns c =
    let unread = c.self.inside in
    let held = unread_length unread.bytes.items _ unread.start unread.end c.self.view_is (omega arith) (omega arith) in
    drop-slice_range unread.bytes.items unread.start unread.end c.args.count (omega (arith, held, c.requires))
    ∙ ap (drop c.args.count) c.self.view_is
