use Rattle.std.proofs.Common.{below_more}
use Rattle.iiif_tiff.specs.Tiff as tiff
use Rattle.iiif_tiff_read.proofs.PieceLemmas.{first_next, first_fails, first_none, fault_of, piece_known, needed_here}
use Rattle.std.proofs.lemmas.Result.{err_from_is_err_and}
use Rattle.iiif_tiff_read.proofs.fields.Fields.check_pieces.Goals as goal

pub returns-in_err-check_piece-clause-checks : goal.returns-in_err-check_piece-clause-checks
returns-in_err-check_piece-clause-checks g c =
    let r = err_from_is_err_and c.from_residual.result c.from_residual.ensures.1 in
    rw (r.1, r.2) (fault_of c.in_err-check_piece.field-0.0 _ _ (g.S.Source.gave c.args.self.now.source.now)
    (tiff.piece (g.S.Source.bytes c.args.self.now.source.now) c.loop-i.i) _
    (λ p. piece_known (g.S.Source.bytes c.args.self.now.source.now) c.args.dim c.args.format c.args.grid.now c.new-tags.result.counts
    c.args.offsets.now c.args.counts.now c.loop-i.i
    c.row_bytes-row_bytes.result c.piece_bytes.result c.loop-i-test.true c.new-tags.ensures.counts c.row_bytes-row_bytes.ensures.bytes
    c.piece_bytes.ensures.bytes p)
    (λ p refusal fails. first_fails (tiff.piece (g.S.Source.bytes c.args.self.now.source.now)) c.args.grid.now.count c.loop-i.i _ refusal
    c.loop-i-test.true (c.loop-i.invariant.1 p) fails)
    (c.in_err-check_piece.ensures.check c.loop-i.i))

pub loop-i-preserved : goal.loop-i-preserved
loop-i-preserved g c = (
  below_more _ _ c.loop-i.invariant.0
      (rw (needed_here c.args.dim c.args.format c.args.grid.now c.args.offsets.now c.loop-i.i c.row_bytes-row_bytes.result
      c.piece_bytes.result c.row_bytes-row_bytes.ensures.bytes c.piece_bytes.ensures.bytes) c.in_ok-check_piece.ensures.in_file),
  λ p.
      let known = piece_known (g.S.Source.bytes c.args.self.now.source.now) c.args.dim c.args.format c.args.grid.now
      c.new-tags.result.counts
      c.args.offsets.now c.args.counts.now c.loop-i.i
      c.row_bytes-row_bytes.result c.piece_bytes.result c.loop-i-test.true c.new-tags.ensures.counts c.row_bytes-row_bytes.ensures.bytes
      c.piece_bytes.ensures.bytes p
      in
      let passes = c.in_ok-check_piece.ensures.check c.loop-i.i known in
      first_next (tiff.piece (g.S.Source.bytes c.args.self.now.source.now)) c.args.grid.now.count c.loop-i.i _ c.loop-i-test.true passes.0
      (c.loop-i.invariant.1 p),
)

pub returns-clause-checks : goal.returns-clause-checks
returns-clause-checks g c = λ p. (
  first_none (tiff.piece (g.S.Source.bytes c.args.self.now.source.now)) c.args.grid.now.count c.loop-i.i _
      c.loop-i-test.false (c.loop-i.invariant.1 p),
  tt,
)
