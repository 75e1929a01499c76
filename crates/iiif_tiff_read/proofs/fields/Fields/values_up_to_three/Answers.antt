use Rattle.std.proofs.Common.{◌*◌, ◌≤◌, refl, sym, ◌∙◌, arith}
use Rattle.std.proofs.lemmas.List.{length-take-le}
use Rattle.iiif_tiff_read.proofs.Values.{kind_is, values_inside, values_outside, few_bytes, few_fit, few_kept, few_room}
use Rattle.iiif_tiff_read.specs.Code.{endian, entry_view}
use Rattle.iiif_tiff_read.proofs.fields.Fields.values_up_to_three.Goals as goal

pub overflow_mul-len : goal.overflow_mul-len
overflow_mul-len g c =
    let room : c.args.entry.count * c.size.result ≤ 12 =
    rw c.size.ensures (few_fit c.in-Some.kind c.args.entry.count (c.requires c.if-allowed.true)) in omega arith

pub overflow_add-offset : goal.overflow_add-offset
overflow_add-offset g c =
    let room : c.args.entry.count * c.size.result ≤ 12 =
    rw c.size.ensures (few_fit c.in-Some.kind c.args.entry.count (c.requires c.if-allowed.true)) in omega arith

pub slice_bounds-bytes-end : goal.slice_bounds-bytes-end
slice_bounds-bytes-end g c = rw c.size.ensures (few_fit c.in-Some.kind c.args.entry.count (c.requires c.if-allowed.true))

pub slice_bounds-read_at-end : goal.slice_bounds-read_at-end
slice_bounds-read_at-end g c = sym (length-take-le (c.args.entry.count * c.size.result) _
    (rw c.size.ensures (few_fit c.in-Some.kind c.args.entry.count (c.requires c.if-allowed.true))))

pub read_at-requires : goal.read_at-requires
read_at-requires g c =
    few_room _ _ _ _ (rw c.size.ensures (few_fit c.in-Some.kind c.args.entry.count (c.requires c.if-allowed.true)))
    (omega (arith, c.if-len-offset.false, c.len.ensures.length))

pub slice_bounds-bytes-end-2 : goal.slice_bounds-bytes-end-2
slice_bounds-bytes-end-2 g c = few_kept _ _ _ c.read_at.auto.buffer
    (rw c.size.ensures (few_fit c.in-Some.kind c.args.entry.count (c.requires c.if-allowed.true)))

pub slice_bounds-decode-end-2 : goal.slice_bounds-decode-end-2
slice_bounds-decode-end-2 g c =
    sym (length-take-le _ _ (few_kept _ _ _ c.read_at.auto.buffer
    (rw c.size.ensures (few_fit c.in-Some.kind c.args.entry.count (c.requires c.if-allowed.true)))))

pub decode-requires-2-clause-bytes : goal.decode-requires-2-clause-bytes
decode-requires-2-clause-bytes g c =
    rw (
      length-take-le (c.args.entry.count * c.size.result) _
          (few_kept _ _ _ c.read_at.auto.buffer (rw c.size.ensures
          (few_fit c.in-Some.kind c.args.entry.count (c.requires c.if-allowed.true)))),
      ← c.size.ensures,
    )
    (omega arith)

pub returns-then-len-le4-clause-values : goal.returns-then-len-le4-clause-values
returns-then-len-le4-clause-values g c = λ p. rw c.if-allowed.true
    (values_inside (g.S.Source.bytes c.args.self.now.source.now) (endian c.args.self.now.order) (entry_view c.args.entry) c.in-Some.kind
    c.args.tag c.args.entry.count c.decode.result
    p.0.order_is (kind_is c.in-Some.kind c.args.entry.kind c.in-Some.ensures) (rw c.size.ensures at c.if-len-le4.true) c.decode.ensures)

pub returns-clause-values : goal.returns-clause-values
returns-clause-values g c = λ p.
    let n = c.args.entry.count * c.size.result in
    let room : n ≤ 12 = rw c.size.ensures (few_fit c.in-Some.kind c.args.entry.count (c.requires c.if-allowed.true)) in
    let there = few_bytes _ c.read_at.new.buffer (g.S.Source.bytes c.args.self.now.source.now) c.long-offset.result n
    (c.in_ok-read_at.ensures.bytes_there p.1) room (omega (arith, c.if-len-offset.false)) in
    rw c.if-allowed.true
    (values_outside (g.S.Source.bytes c.args.self.now.source.now) (endian c.args.self.now.order) (entry_view c.args.entry) c.in-Some.kind
    c.args.tag c.args.entry.count c.long-offset.result c.decode-2.result _
    p.0.order_is (kind_is c.in-Some.kind c.args.entry.kind c.in-Some.ensures) (rw c.size.ensures at c.if-len-le4.false)
    c.long-offset.ensures
    (omega (arith, rw c.size.ensures at c.if-len-offset.false)) (there ∙ rw c.size.ensures refl) c.decode-2.ensures)
