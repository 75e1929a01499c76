use Rattle.std.proofs.Common.{List, ℕ, ◌++◌, length, ap, sym, ◌∙◌, arith, append_assoc}
use Rattle.std.proofs.KnownBytes.{Consumes-trans}
use Rattle.iiif_http_front.proofs.PromptLemmas.{open_further}
use Rattle.iiif_http_front.proofs.heads.fill_line.Goals as goal

pub reads-preserved : goal.reads-preserved
reads-preserved g c =
    let came = c.reads.invariant in
    let read = c.in_ok-fill.ensures.came in (
      came.0 ++ read.0,
      read.2 ∙ ap (λ (t : List ℕ). t ++ read.0) came.1 ∙ append_assoc c.args.unread.now came.0 read.0,
      Consumes-trans _ _ _ came.0 read.0 came.2 read.3,
      open_further c.reads.unread read.0 c.fill.new.self _ _ _ came.3 read.2 c.as_slice-bytes.ensures.value c.split_at.ensures.back
          (ap length c.as_slice-held.ensures.value) (sym c.has_line_feed.ensures ∙ c.if-has_line_feed.false)
          (omega (arith, c.if-bytes-ge-BYTE_LIMIT.false, ap length c.as_slice-bytes.ensures.value)),
    )
