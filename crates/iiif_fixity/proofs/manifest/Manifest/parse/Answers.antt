use Rattle.std.proofs.Common.{subst}
use Rattle.std.specs.Prelude.{IfErr}
use Rattle.std.specs.Str.Lines.{lines}
use Rattle.iiif_fixity.specs.Manifests.{EndsAtLine}
use Rattle.iiif_fixity.proofs.manifest.Manifest.parse.Goals as goal

pub returns-in-Ok-clause-line : goal.returns-in-Ok-clause-line
returns-in-Ok-clause-line c utf8 =
    subst (λ t. IfErr c.parse_lines.result (λ f. EndsAtLine (lines t) f.line f.fault))
    c.in-Ok.ensures.cases.0 c.parse_lines.ensures.ends
