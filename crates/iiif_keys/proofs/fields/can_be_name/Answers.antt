use Rattle.std.proofs.Common.{refl}
use Rattle.iiif_keys.specs.Names.{is_name}
use Rattle.iiif_keys.proofs.Names.{no_text_no_name}
use Rattle.iiif_keys.proofs.fields.can_be_name.Goals as goal

pub returns-in-Err : goal.returns-in-Err
returns-in-Err c = no_text_no_name c.args.bytes.now (is_name c.args.bytes.now) refl c.in-Err.ensures.cases.0
