use Rattle.iiif_keys.specs.Bytes.{sum_key_bytes}
use Rattle.iiif_keys.proofs.Written.{sum_written}
use Rattle.iiif_keys.proofs.sum_key.SumKeyCacheKey.bytes.Goals as goal

pub returns : goal.returns
unfolding sum_key_bytes
returns c =
    sum_written _ _ _ _ _ _ _ _ _ _ _ _ _ _ _ _ _ c.in_ok-out.ensures.items c.in_ok-put_name.ensures c.in_ok-put_long.ensures
    c.in_ok-put_rect.ensures c.in_ok-put_long-2.ensures c.in_ok-put_long-3.ensures c.in_ok-push.ensures.items c.in_ok-put_long-4.ensures
    c.in_ok-put_long-5.ensures
