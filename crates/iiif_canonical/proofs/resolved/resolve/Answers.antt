use Rattle.std.proofs.Common.{rules, ◌≡◌}
use Rattle.iiif_canonical.specs.Resolution.{resolved_of}
use Rattle.iiif_canonical.proofs.ImageLemmas.{image_resolved, image_resolved_ok}
use Rattle.iiif_canonical.proofs.resolved.resolve.Goals as goal

pub returns-in_err-rect-clause-same_image : goal.returns-in_err-rect-clause-same_image
unfolding resolved_of
returns-in_err-rect-clause-same_image c =
    let value : c.from_residual.result ≡ resolved_of c.args.request.now c.args.dim c.args.kind c.args.limits.now = search rules in
    λ p sides channels. image_resolved p _ _ _ _ _ sides channels value

pub returns-in_err-size-clause-same_image : goal.returns-in_err-size-clause-same_image
unfolding resolved_of
returns-in_err-size-clause-same_image c =
    let value : c.from_residual-in_err-size.result ≡ resolved_of c.args.request.now c.args.dim c.args.kind c.args.limits.now =
    search rules in
    λ p sides channels. image_resolved p _ _ _ _ _ sides channels value

pub returns-clause-same_image : goal.returns-clause-same_image
unfolding resolved_of
returns-clause-same_image c =
    λ p sides channels. image_resolved_ok p _ c.args.dim c.args.kind _ _ sides channels (search rules)
