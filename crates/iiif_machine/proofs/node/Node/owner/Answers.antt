use Rattle.std.proofs.Common.{◌≡◌, ℕ, List, Some, ap, ◌∙◌}
use Rattle.std.specs.Prelude.{slice_get}
use Rattle.std.specs.String.{string_bytes}
use Rattle.std.proofs.lemmas.Option.{get_or_from_slice_get}
use Rattle.iiif_machine.specs.Owners.{owner}
use Rattle.iiif_machine.specs.Worlds.{owner_of}
use Rattle.iiif_machine.proofs.Learning.{get_mapped}
use Rattle.iiif_machine.proofs.Owned.{owner_place}
use Rattle.iiif_machine.proofs.node.Node.owner.Goals as goal

pub returns : goal.returns
unfolding owner_of
returns c =
    let ring = c.args.self.now.ring in
    let s = c.index-names-place.result in
    let i = c.owner-place.result in
    let at : slice_get ring i ≡ Some (owner ring c.deref.result.now) =
    owner_place ring c.deref.result.now i c.owner-place.ensures.owner c.owner-place.ensures.only in
    let here = ap (λ (n : List (List ℕ)). slice_get n i) c.names.ensures ∙ at in
    let x = get_mapped (λ name. string_bytes name) c.names.result.now i (owner ring c.deref.result.now) here in
    c.as_str.ensures.value ∙ ap string_bytes (c.index-names-place.is ∙ get_or_from_slice_get c.names.result.now i x.0 s x.1) ∙ x.2
    ∙ ap (owner ring) (c.deref.ensures.value ∙ c.in_ok-bytes.ensures)
