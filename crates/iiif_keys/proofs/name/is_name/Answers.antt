use Rattle.iiif_keys.proofs.Names.{text_is_name}
use Rattle.iiif_keys.proofs.name.is_name.Goals as goal

pub returns-then-text-gt0 : goal.returns-then-text-gt0
returns-then-text-gt0 c = text_is_name c.args.text.now c.utf8.text c.if-text-gt0.true
