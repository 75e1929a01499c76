use Rattle.std.proofs.Common.{sym, ◌∙◌}
use Rattle.iiif_keys.proofs.Names.{is_name_true}
use Rattle.iiif_keys.proofs.tile_key.decode.Goals as goal

pub from_bytes-requires : goal.from_bytes-requires
from_bytes-requires c = is_name_true c.in_ok-name.name.now (sym c.can_be_name.ensures ∙ c.if-not-can_be_name.false)
