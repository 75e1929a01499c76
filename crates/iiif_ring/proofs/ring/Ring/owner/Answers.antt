use Rattle.std.proofs.Common.{◌≡◌, ℕ, List, Option, Some, IsSomeAnd, slice_get, length, sym, ap, ◌∙◌, subst, arith}
use Rattle.iiif_ring.specs.Code.{name_at}
use Rattle.iiif_ring.specs.Names.{names_of}
use Rattle.iiif_ring.specs.Owner.{IsOwner}
use Rattle.iiif_ring.proofs.Names.{length-names_of}
use Rattle.iiif_ring.proofs.Owners.{alone_stands, owner_stands, not_empty, IsOwner-unique}
use Rattle.iiif_ring.proofs.ring.Ring.owner.Goals as goal

pub next_place-requires : goal.next_place-requires
next_place-requires c = λ here place e. (c.self.invariant.1.each here place e).0

pub unreachable-requires : goal.unreachable-requires
unreachable-requires c = let names = c.self.inside.names.items in
    not_empty (names_of names) c.self.inside.points c.self.invariant.1 (omega (arith, c.self.invariant.0, length-names_of names))
    c.in-None.ensures.none

pub returns-then-is_alone-clause-owner : goal.returns-then-is_alone-clause-owner
returns-then-is_alone-clause-owner c =
    let names = c.args.self.now in
    let alone : length names ≡ 1 = omega (arith, ap length c.self.view_is, length-names_of c.self.inside.names.items) in
    let at = alone_stands names c.args.key.now alone in
    let P : Option (List ℕ) → Type 0 = λ o. IsSomeAnd o (IsOwner names c.args.key.now) in
    subst P (sym at.1) at.0

pub returns-then-is_alone-clause-only : goal.returns-then-is_alone-clause-only
returns-then-is_alone-clause-only c = λ others name same is.
    let names = c.args.self.now in
    let alone : length names ≡ 1 = omega (arith, ap length c.self.view_is, length-names_of c.self.inside.names.items) in
    let at = alone_stands names c.args.key.now alone in
    let one : name ≡ name_at names 0 = IsOwner-unique others names c.args.key.now name (name_at names 0) same is at.0 in
    at.1 ∙ ap (λ (t : List ℕ). Some t) (sym one)

pub returns-clause-owner : goal.returns-clause-owner
returns-clause-owner c =
    let names = names_of c.self.inside.names.items in
    let at = owner_stands names c.self.inside.points c.args.key.now c.hash_of.result c.in-Some.place c.self.invariant.1
    c.hash_of.ensures.value c.hash_of.ensures.fits c.in-Some.ensures.next in
    let P : Option (List ℕ) → Type 0 = λ o. IsSomeAnd o (IsOwner names c.args.key.now) in
    let stands : IsSomeAnd (slice_get names c.in-Some.place) (IsOwner names c.args.key.now) = subst P (sym at.1) at.0 in
    subst (λ (v : List (List ℕ)). IsSomeAnd (slice_get v c.in-Some.place) (IsOwner v c.args.key.now)) c.self.view_is stands

pub returns-clause-only : goal.returns-clause-only
returns-clause-only c = λ others name same is.
    let names = names_of c.self.inside.names.items in
    let at = owner_stands names c.self.inside.points c.args.key.now c.hash_of.result c.in-Some.place c.self.invariant.1
    c.hash_of.ensures.value c.hash_of.ensures.fits c.in-Some.ensures.next in
    let owns : IsOwner c.args.self.now c.args.key.now (name_at names c.in-Some.place) =
    subst (λ (v : List (List ℕ)). IsOwner v c.args.key.now (name_at names c.in-Some.place)) c.self.view_is at.0 in
    let one : name ≡ name_at names c.in-Some.place =
    IsOwner-unique others c.args.self.now c.args.key.now name (name_at names c.in-Some.place) same is owns in
    ap (λ (v : List (List ℕ)). slice_get v c.in-Some.place) (sym c.self.view_is) ∙ at.1 ∙ ap (λ (t : List ℕ). Some t) (sym one)
