use Rattle.std.proofs.Common.{sym, ◌∙◌}
use Rattle.iiif_keys.proofs.KeyTests.{sum_name}
use Rattle.iiif_keys.proofs.sum_key.decode.Goals as goal

pub from_bytes-requires : goal.from_bytes-requires
from_bytes-requires c = sum_name c.in_ok-name.name.now c.in_ok-name.rest.now (sym c.is_key.ensures ∙ c.if-not-is_key.false)
