use Rattle.std.proofs.Common.{◌≡◌, arith, rules, drop, ◌∙◌}
use Rattle.iiif_keys.proofs.ValueBytes.{sum_val_read}
use Rattle.iiif_keys.proofs.sum_val_bytes.decode.Goals as goal

pub returns-in-Ok-clause-value : goal.returns-in-Ok-clause-value
returns-in-Ok-clause-value c =
    let tail : c.split_at.result.1.now ≡ drop 17 c.args.bytes.now = search rules in
    sum_val_read c.args.bytes.now c.in-Ok.sums.items c.rect_at-rect.result _ c.count_of-count.result c.are_sides.result c.from_parts.result
    (λ i. omega (arith, c.type_inv.bytes i)) (omega arith)
    c.rect_at-rect.ensures c.in-Some.ensures.kind c.in-Some.ensures.some c.are_sides.ensures c.in_ok-check.ensures.fields
    c.count_of-count.ensures.count c.in-Ok.ensures.count c.in-Ok.ensures.bound (c.in-Ok.ensures.numbers ∙ tail) c.from_parts.ensures
