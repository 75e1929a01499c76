use Rattle.std.proofs.Common.{◌∙◌, ap}
use Rattle.iiif_fixity.specs.Manifests.{has_name}
use Rattle.iiif_fixity.proofs.Listing.{has_lookup}
use Rattle.iiif_fixity.proofs.manifest.Manifest.has.Goals as goal

pub returns : goal.returns
returns c = c.contains_key.ensures ∙ (has_lookup c.self.inside.digests.entries c.args.name.now ∙
    ap (λ entries. has_name entries c.args.name.now) c.self.view_is)
