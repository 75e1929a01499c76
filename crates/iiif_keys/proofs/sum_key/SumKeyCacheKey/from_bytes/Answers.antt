use Rattle.std.proofs.Common.{arith}
use Rattle.iiif_keys.proofs.Read.{sum_key_read, sum_key_only}
use Rattle.iiif_keys.proofs.sum_key.SumKeyCacheKey.from_bytes.Goals as goal

pub returns-clause-found : goal.returns-clause-found
returns-clause-found c = sum_key_read c.decode.result c.args.bytes.now (λ i. omega (arith, c.type_inv.bytes i)) c.decode.ensures.key
    c.decode.ensures.accepted

pub returns-clause-only : goal.returns-clause-only
returns-clause-only c k is spelled = sum_key_only c.decode.result c.args.bytes.now k is spelled c.decode.ensures.key
    c.decode.ensures.refused
