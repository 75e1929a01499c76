use Rattle.std.proofs.Common.{ℕ, List, subst, inl, inr}
use Rattle.std.specs.Prelude.{IfNone}
use Rattle.iiif_peer_versions.specs.Keys.{IsWireOf}
use Rattle.iiif_peer_versions.specs.Told.{told}
use Rattle.iiif_peer_versions.proofs.compared.Compared.answer_version.Goals as goal

pub returns-in-Ok-None-clause-allowed : goal.returns-in-Ok-None-clause-allowed
returns-in-Ok-None-clause-allowed g c =
    let known = told c.args.versions.now in
    let none = subst (λ found. IfNone found ((key : List ℕ) → IsWireOf known key c.as_slice.result.now → ⊥)) c.in-Ok-None.field-0-is
    c.in-Ok-None.ensures.none in
    inr (inl (
      c.number.ensures,
      c.new.ensures.items,
      subst (λ wire. (key : List ℕ) → IsWireOf known key wire → ⊥) c.as_slice.ensures.value none,
    ))
