use Rattle.std.proofs.Common.{rules, ◌≡◌}
use Rattle.std.specs.Prelude.{string_bytes}
use Rattle.iiif_canonical.specs.Texts.{text_of}
use Rattle.iiif_canonical.proofs.TextLemmas.{text_of_spells}
use Rattle.iiif_canonical.proofs.texts.text.Goals as goal

pub returns-clause-spells : goal.returns-clause-spells
returns-clause-spells c =
    let value : string_bytes c.push_text.new.out ≡ text_of c.args.request.now = search rules in
    λ can. text_of_spells c.args.request.now _ can value
