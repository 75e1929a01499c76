use Rattle.iiif_keys.proofs.Read.{sum_val_only_read}
use Rattle.iiif_keys.proofs.sum_key.SumKeyCacheKey.value_from.Goals as goal

pub returns-clause-only : goal.returns-clause-only
returns-clause-only c v is spelled = sum_val_only_read c.decode.result c.args.bytes.now v is spelled c.decode.ensures.value
    c.decode.ensures.refused
