use Rattle.std.proofs.Common.{◌≡◌, arith, rules, drop, ◌∙◌}
use Rattle.iiif_pixel.specs.Depths.{depth_of, values_of}
use Rattle.iiif_keys.proofs.ValueBytes.{tile_val_read}
use Rattle.iiif_keys.proofs.tile_val_bytes.decode.Goals as goal

pub returns-in-Ok-clause-value : goal.returns-in-Ok-clause-value
returns-in-Ok-clause-value c =
    let tail : c.split_at.result.1.now ≡ drop 9 c.args.bytes.now = search rules in
    tile_val_read c.args.bytes.now (values_of c.in-Ok.samples) c.long_at-w.result c.long_at-h.result _ c.count_of-count.result
    c.in-Some.depth (depth_of c.in-Ok.samples) c.are_sides.result c.from_samples.result (λ i. omega (arith, c.type_inv.bytes i))
    (omega arith)
    c.long_at-w.ensures c.long_at-h.ensures c.in-Some.ensures.kind c.in-Some.ensures.depth c.in-Some.ensures.some c.are_sides.ensures
    c.in_ok-check.ensures.fields
    c.count_of-count.ensures.count c.in-Ok.ensures.depth c.in-Ok.ensures.count c.in-Ok.ensures.bound (c.in-Ok.ensures.samples ∙ tail)
    c.from_samples.ensures
