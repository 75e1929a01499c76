use Rattle.std.proofs.Common.{◌++◌, List, ℕ, ap, ◌∙◌}
use Rattle.iiif_keys.specs.Bytes.{channels_byte, long, samples_bytes, tile_val_bytes}
use Rattle.iiif_keys.proofs.ValueBytes.{same_byte, same_samples_bytes}
use Rattle.iiif_keys.proofs.Written.{tile_written}
use Rattle.iiif_keys.proofs.tile_val_bytes.encode.Goals as goal

pub returns : goal.returns
unfolding tile_val_bytes
returns c =
    let value = c.args.value.now.raster in
    tile_written _ _ _ _ _ (long value.width) (long value.height) (samples_bytes value.top value.samples) _
    (channels_byte value.top value.channels) c.new-out.ensures.items
    (c.in_ok-put_long.ensures ∙ ap (λ (n : ℕ). c.new-out.result.items ++ long n) c.dim-sides.ensures.width)
    (c.in_ok-put_long-2.ensures ∙ ap (λ (n : ℕ). c.put_long.new.out.items ++ long n) c.dim-sides.ensures.height)
    c.in_ok-put_kind_and_depth.ensures
    (c.in_ok-put_samples.ensures ∙ ap (λ (s : List ℕ). c.put_kind_and_depth.new.out.items ++ s)
    (same_samples_bytes _ _ _ _ c.samples.ensures.depth c.samples.ensures.all))
    (same_byte _ _ _ _ c.depth.ensures c.kind.ensures)
