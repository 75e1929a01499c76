use Rattle.std.proofs.Common.{rules}
use Rattle.iiif_canonical.specs.Canonical.{canonical_of}
use Rattle.iiif_canonical.proofs.FormLemmas.{canonical_of_each, answer_resolves, answer_fixed, answer_image, answer_short, answer_spelled}
use Rattle.iiif_canonical.proofs.forms.canonical.Goals as goal

pub returns-clause-form : goal.returns-clause-form
unfolding canonical_of
returns-clause-form c =
    λ q resolves. canonical_of_each _ q c.args.resolved.now c.args.dim c.args.kind c.args.limits.now (search rules) resolves

pub returns-clause-resolves : goal.returns-clause-resolves
unfolding canonical_of
returns-clause-resolves c =
    answer_resolves _ c.args.resolved.now c.args.dim c.args.kind c.args.limits.now c.requires (search rules)

pub returns-clause-fixed : goal.returns-clause-fixed
unfolding canonical_of
returns-clause-fixed c = answer_fixed _ c.args.resolved.now c.args.dim c.args.kind c.args.limits.now c.requires (search rules)

pub returns-clause-same_image : goal.returns-clause-same_image
unfolding canonical_of
returns-clause-same_image c =
    λ p sides channels. answer_image _ c.args.resolved.now c.args.dim c.args.kind c.args.limits.now p c.requires (search rules) sides
    channels

pub returns-clause-short : goal.returns-clause-short
unfolding canonical_of
returns-clause-short c = answer_short _ c.args.resolved.now c.args.dim c.args.limits.now (search rules)

pub returns-clause-spelled : goal.returns-clause-spelled
unfolding canonical_of
returns-clause-spelled c =
    λ sides. answer_spelled _ c.args.resolved.now c.args.dim c.args.kind c.args.limits.now c.requires sides (search rules)
