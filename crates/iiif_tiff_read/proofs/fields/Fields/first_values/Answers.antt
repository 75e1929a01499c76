use Rattle.std.proofs.Common.{◌∙◌, arith}
use Rattle.iiif_tiff_read.proofs.Values.{kind_is, values_inside, values_outside}
use Rattle.iiif_tiff_read.specs.Code.{endian, entry_view}
use Rattle.iiif_tiff_read.proofs.fields.Fields.first_values.Goals as goal

pub returns-then-entry-size-le4-clause-values : goal.returns-then-entry-size-le4-clause-values
returns-then-entry-size-le4-clause-values g c = λ p. rw c.if-allowed.true
    (values_inside (g.S.Source.bytes c.args.self.now.source.now) (endian c.args.self.now.order) (entry_view c.args.entry) c.in-Some.kind
    c.args.tag c.args.n c.in_ok-decode_all.field-0.items
    p.0.order_is (kind_is c.in-Some.kind c.args.entry.kind c.in-Some.ensures) (rw c.size-size.ensures at c.if-entry-size-le4.true)
    c.in_ok-decode_all.ensures.numbers)

pub returns-clause-values : goal.returns-clause-values
returns-clause-values g c = λ p. rw c.if-allowed.true
    (values_outside (g.S.Source.bytes c.args.self.now.source.now) (endian c.args.self.now.order) (entry_view c.args.entry) c.in-Some.kind
    c.args.tag c.args.n c.long-offset.result c.in_ok-decode_all-2.field-0.items c.deref.result.now
    p.0.order_is (kind_is c.in-Some.kind c.args.entry.kind c.in-Some.ensures) (rw c.size-size.ensures at c.if-entry-size-le4.false)
    c.long-offset.ensures
    (omega (arith, rw c.size-size.ensures at c.if-len-offset.false))
    (let h = c.deref.ensures.value ∙ c.in_ok-bytes.ensures.bytes p.1 in rw c.size.ensures at h) c.in_ok-decode_all-2.ensures.numbers)
