-- Images of a request and of its canonical form are equal.
use Rattle.std.proofs.Common.{◌≡◌, refl, sym, ap, ◌∙◌, Result, Ok, Err}
use Rattle.iiif_pixel.specs.Geometry.{channels_of}
use Rattle.iiif_pixel.specs.Picture.{Picture, dim_of}
use Rattle.iiif_pixel.specs.declared.geometry.Dim.{Dim}
use Rattle.iiif_pixel.specs.declared.geometry.Kind.{Kind}
use Rattle.iiif_request.specs.declared.request.Request.{Request}
use Rattle.iiif_request.specs.declared.request.Refusal.{Refusal}
use Rattle.iiif_canonical.specs.Canonical.{canonical_of, canonical}
use Rattle.iiif_canonical.specs.Images.{image, resolved_image}
use Rattle.iiif_canonical.specs.Laws.{CanonicalMeansTheSame}
use Rattle.iiif_canonical.specs.Resolution.{◌>>=◌, resolved_of, IsResolved}
use Rattle.iiif_canonical.specs.declared.resolved.Limits.{Limits}
use Rattle.iiif_canonical.specs.declared.resolved.Resolved.{Resolved}
use Rattle.iiif_canonical.proofs.CanonicalLemmas.{canonical_of_resolves}
use Rattle.iiif_canonical.proofs.ImageLemmas.{image_resolved}
use Rattle.iiif_canonical.proofs.ResolutionLemmas.{resolved_of_ok}

-- The canonical form has the image of the values that it was written for.
pub image_canonical_of : (p : Picture) (r : Resolved) (d : Dim) (k : Kind) (l : Limits) → IsResolved d k l r → dim_of p ≡ d →
    p.channels ≡ channels_of k
    → image p (canonical_of r d l) l ≡ Ok (resolved_image p r)
image_canonical_of p r d k l is sides channels =
    image_resolved p (canonical_of r d l) d k l (Ok r) sides channels (sym (canonical_of_resolves r d k l is))

by_resolved : (p : Picture) (q c : Request) (k : Kind) (l : Limits) (x : Result Resolved Refusal) → p.channels ≡ channels_of k
    → resolved_of q (dim_of p) k l ≡ x → (x >>= (λ r. Ok (canonical_of r (dim_of p) l))) ≡ Ok c → image p c l ≡ image p q l
by_resolved p q c k l (Err e) channels same is = cc
by_resolved p q c k l (Ok r) channels same is =
    let written : canonical_of r (dim_of p) l ≡ c = cc in
    let resolved = resolved_of_ok q (dim_of p) k l r same in
    ap (λ (t : Request). image p t l) (sym written)
    ∙ image_canonical_of p r (dim_of p) k l resolved refl channels
    ∙ sym (image_resolved p q (dim_of p) k l (Ok r) refl channels (sym same))

-- A request and its canonical form have equal images.
pub image_canonical : CanonicalMeansTheSame
unfolding canonical
image_canonical p k l q c channels is = by_resolved p q c k l _ channels refl is
