use Rattle.std.proofs.Common.{◌∙◌, ap}
use Rattle.iiif_fixity.specs.Manifests.{digest_named}
use Rattle.iiif_fixity.proofs.Listing.{digest_lookup}
use Rattle.iiif_fixity.proofs.manifest.Manifest.named.Goals as goal

pub returns : goal.returns
returns c = c.get.ensures.value ∙ (digest_lookup c.self.inside.digests.entries c.args.name.now ∙
    ap (λ entries. digest_named entries c.args.name.now) c.self.view_is)
