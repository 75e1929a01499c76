use Rattle.std.proofs.Common.{arith, rules}
use Rattle.std.proofs.lemmas.List.Elements.{All-from_get_or}
use Rattle.percent_encoding.proofs.PercentLemmas.{IsByte}
use Rattle.iiif_canonical.specs.Texts.{uri_of}
use Rattle.iiif_canonical.proofs.TextLemmas.{uri_of_leads}
use Rattle.iiif_canonical.proofs.uris.uri.Goals as goal

pub returns-clause-leads : goal.returns-clause-leads
unfolding uri_of
returns-clause-leads c =
    let bytes = All-from_get_or IsByte c.args.id.now 0 (λ i within. omega (arith, c.type_inv.id i)) in
    λ can some. uri_of_leads c.args.base.now c.args.id.now c.args.request.now _ can bytes c.utf8.id some (search rules)
