-- Answers of `canonical`: a request that equals the canonical form of resolved values has all that is proved of that form.
use Rattle.std.proofs.Common.{◌≡◌, sym, ap, ◌∙◌, subst, Ok}
use Rattle.iiif_pixel.specs.Geometry.{channels_of}
use Rattle.iiif_pixel.specs.Picture.{Picture, dim_of}
use Rattle.iiif_pixel.specs.declared.geometry.Dim.{Dim}
use Rattle.iiif_pixel.specs.declared.geometry.Kind.{Kind}
use Rattle.iiif_request.specs.Requests.{HasShortDecimals}
use Rattle.iiif_request.specs.declared.request.Request.{Request}
use Rattle.iiif_canonical.specs.Canonical.{canonical_of, canonical, HasShortSides}
use Rattle.iiif_canonical.specs.Images.{image, resolved_image}
use Rattle.iiif_canonical.specs.Resolution.{resolved_of, IsResolved}
use Rattle.iiif_canonical.specs.Texts.{CanBeSpelled}
use Rattle.iiif_canonical.specs.declared.resolved.Limits.{Limits}
use Rattle.iiif_canonical.specs.declared.resolved.Resolved.{Resolved}
use Rattle.iiif_canonical.proofs.CanonicalLemmas.{canonical_of_resolves, canonical_of_fixed, canonical_of_short}
use Rattle.iiif_canonical.proofs.SameImages.{image_canonical_of}
use Rattle.iiif_canonical.proofs.SpellingLemmas.{canonical_of_spelled}

-- The answer is the canonical form of each request that resolves to the values.
pub canonical_of_each : (c q : Request) (r : Resolved) (d : Dim) (k : Kind) (l : Limits) → c ≡ canonical_of r d l →
    resolved_of q d k l ≡ Ok r → canonical q d k l ≡ Ok c
unfolding canonical
canonical_of_each c q r d k l e resolves = rw resolves (ap Ok (sym e))

-- The answer resolves to the values.
pub answer_resolves : (c : Request) (r : Resolved) (d : Dim) (k : Kind) (l : Limits) → IsResolved d k l r → c ≡ canonical_of r d l →
    resolved_of c d k l ≡ Ok r
answer_resolves c r d k l is e =
    subst (λ (x : Request). resolved_of x d k l ≡ Ok r) (sym e) (canonical_of_resolves r d k l is)

-- The answer is its own canonical form.
pub answer_fixed : (c : Request) (r : Resolved) (d : Dim) (k : Kind) (l : Limits) → IsResolved d k l r → c ≡ canonical_of r d l →
    canonical c d k l ≡ Ok c
answer_fixed c r d k l is e =
    subst (λ (x : Request). canonical x d k l ≡ Ok x) (sym e) (canonical_of_fixed r d k l is)

-- The answer has the image of the values.
pub answer_image : (c : Request) (r : Resolved) (d : Dim) (k : Kind) (l : Limits) (p : Picture) → IsResolved d k l r →
    c ≡ canonical_of r d l → dim_of p ≡ d → p.channels ≡ channels_of k → image p c l ≡ Ok (resolved_image p r)
answer_image c r d k l p is e sides channels =
    subst (λ (x : Request). image p x l ≡ Ok (resolved_image p r)) (sym e) (image_canonical_of p r d k l is sides channels)

-- No decimal of the answer has places.
pub answer_short : (c : Request) (r : Resolved) (d : Dim) (l : Limits) → c ≡ canonical_of r d l → HasShortDecimals c
answer_short c r d l e = subst HasShortDecimals (sym e) (canonical_of_short r d l)

-- Some words spell the answer, where no side has more than nine digits.
pub answer_spelled : (c : Request) (r : Resolved) (d : Dim) (k : Kind) (l : Limits) → IsResolved d k l r → HasShortSides d l →
    c ≡ canonical_of r d l → CanBeSpelled c
answer_spelled c r d k l is sides e =
    subst (λ (x : Request). CanBeSpelled x) (sym e) (canonical_of_spelled r d k l is sides)
