use Rattle.std.proofs.Common.{◌++◌, List, ℕ, ap, ◌∙◌}
use Rattle.std.specs.List.{flat_map}
use Rattle.iiif_keys.specs.Bytes.{rect_bytes, wide, sum_val_bytes}
use Rattle.iiif_keys.proofs.Written.{sums_written}
use Rattle.iiif_keys.proofs.sum_val_bytes.encode.Goals as goal

pub returns : goal.returns
unfolding sum_val_bytes
returns c =
    let value = c.args.value.now.sums in
    sums_written _ _ _ _ (rect_bytes value.rect) (flat_map wide value.sums) _ _ c.new-out.ensures.items
    (c.in_ok-put_rect.ensures ∙ ap (λ r. c.new-out.result.items ++ rect_bytes r) c.rect.ensures)
    c.in_ok-put_kind.ensures
    (c.in_ok-put_wides.ensures ∙ ap (λ (s : List ℕ). c.put_kind.new.out.items ++ flat_map wide s) c.sums.ensures.all) c.kind.ensures
