use Rattle.std.proofs.Common.{arith, rules, ◌≡◌}
use Rattle.std.proofs.lemmas.List.Elements.{All-from_get_or}
use Rattle.percent_encoding.proofs.PercentLemmas.{IsByte}
use Rattle.percent_encoding.specs.Percent.{percent_encode}
use Rattle.iiif_canonical.specs.declared.uris.TheConstants.{RESERVED}
use Rattle.iiif_canonical.specs.Escapes.{escaped}
use Rattle.iiif_canonical.proofs.EscapeLemmas.{percent_encode_escaped}
use Rattle.iiif_canonical.proofs.uris.push_escaped.Goals as goal

pub returns-clause-ok : goal.returns-clause-ok
returns-clause-ok c =
    let small = All-from_get_or IsByte c.args.id.now 0 (λ i within. omega (arith, c.type_inv.id i)) in
    let same : percent_encode RESERVED c.args.id.now ≡ escaped c.args.id.now = percent_encode_escaped _ small in
    search rules
