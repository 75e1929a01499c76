use Rattle.std.proofs.Common.{◌∙◌, sym, refl}
use Rattle.iiif_tiff.specs.Tiff as tiff
use Rattle.iiif_tiff_read.proofs.PieceLemmas.{fault_of, lists_are}
use Rattle.std.proofs.lemmas.Result.{err_from_is_err_and}
use Rattle.iiif_tiff_read.proofs.fields.Fields.pieces.Goals as goal

pub returns-in_err-check_pieces-clause-pieces : goal.returns-in_err-check_pieces-clause-pieces
unfolding tiff.pieces_fit
returns-in_err-check_pieces-clause-pieces g c =
    let r = err_from_is_err_and c.from_residual-in_err-check_pieces.result c.from_residual-in_err-check_pieces.ensures.1 in
    rw (r.1, r.2) (fault_of c.in_err-check_pieces.field-0.0 _ _ (g.S.Source.gave c.args.self.now.source.now) _ _
    (λ p. let l = lists_are (g.S.Source.bytes c.args.self.now.source.now) c.args.dim c.args.format c.args.grid.now c.new-tags.result.offsets
    c.new-tags.result.counts c.deref.result.now c.deref-2.result.now
    p.1.1 c.new-tags.ensures.offsets c.new-tags.ensures.counts (rw (← c.deref.ensures.value) at (c.in_ok-offsets.ensures.values
    (p.0, p.1.0)))
    (rw (← c.deref-2.ensures.value) at (c.in_ok-counts.ensures.values (p.0, p.1.0))) in
    record { known = p.1.1; offsets_are = l.offsets_are; counts_are = l.counts_are })
    (λ p refusal fails. let l = lists_are (g.S.Source.bytes c.args.self.now.source.now) c.args.dim c.args.format c.args.grid.now
    c.new-tags.result.offsets c.new-tags.result.counts c.deref.result.now c.deref-2.result.now
    p.1.1 c.new-tags.ensures.offsets c.new-tags.ensures.counts (rw (← c.deref.ensures.value) at (c.in_ok-offsets.ensures.values
    (p.0, p.1.0)))
    (rw (← c.deref-2.ensures.value) at (c.in_ok-counts.ensures.values (p.0, p.1.0))) in
    rw (l.offsets_there, l.counts_there, ← l.count_is) fails)
    c.in_err-check_pieces.ensures.checks)

pub returns-clause-pieces : goal.returns-clause-pieces
unfolding tiff.pieces_fit
returns-clause-pieces g c = λ p.
    let l = lists_are (g.S.Source.bytes c.args.self.now.source.now) c.args.dim c.args.format c.args.grid.now c.new-tags.result.offsets
    c.new-tags.result.counts c.deref.result.now c.deref-2.result.now
    p.1.1 c.new-tags.ensures.offsets c.new-tags.ensures.counts (rw (← c.deref.ensures.value) at (c.in_ok-offsets.ensures.values
    (p.0, p.1.0)))
    (rw (← c.deref-2.ensures.value) at (c.in_ok-counts.ensures.values (p.0, p.1.0))) in
    let h = c.in_ok-check_pieces.ensures.checks (record { known = p.1.1; offsets_are = l.offsets_are; counts_are = l.counts_are }) in
    (rw (l.offsets_there, l.counts_there, ← l.count_is) h.0, sym c.deref.ensures.value ∙ l.offsets_are ∙ rw l.count_is refl)
