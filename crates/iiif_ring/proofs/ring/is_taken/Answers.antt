use Rattle.std.proofs.Common.{◌<◌, sym, subst, length, arith, rules}
use Rattle.std.specs.String.{string_bytes}
use Rattle.std.specs.Option.{IfSome, IsSomeAnd}
use Rattle.std.specs.Prelude.{Option, ℕ}
use Rattle.iiif_ring.specs.Code.{name_at}
use Rattle.iiif_ring.specs.Names.{names_of}
use Rattle.iiif_ring.specs.Owner.{IsUpTo}
use Rattle.iiif_ring.proofs.Names.{name_at-names_of, length-names_of, IsUpTo-le, IsUpTo-not_le}
use Rattle.iiif_ring.proofs.ring.is_taken.Goals as goal

pub offset_bounds-names-other : goal.offset_bounds-names-other
offset_bounds-names-other c = let h = (c.requires.each c.args.here c.in-Some.other.now (sym c.in-Some.ensures.value)).1 in
    let k : c.in-Some.other.now < length c.args.names.now = omega (arith, h, length-names_of c.args.names.now) in search rules

pub bounds-names-other : goal.bounds-names-other
bounds-names-other c = let h = (c.requires.each c.args.here c.in-Some.other.now (sym c.in-Some.ensures.value)).1 in
    omega (arith, h, length-names_of c.args.names.now)

pub returns-in-Some-clause-taken : goal.returns-in-Some-clause-taken
returns-in-Some-clause-taken c = λ yes'.
    let names = c.args.names.now in
    let h = (c.requires.each c.args.here c.in-Some.other.now (sym c.in-Some.ensures.value)).1 in
    let other = name_at-names_of names c.in-Some.other.now c.index-names-other.result c.index-names-other.is
    (omega (arith, h, length-names_of names)) in
    let place = name_at-names_of names c.args.place c.index-names-place.result c.index-names-place.is c.requires.within in
    let P : Option ℕ → Type 0 = λ o. IsSomeAnd o (λ y. IsUpTo (name_at (names_of names) y) (name_at (names_of names) c.args.place)) in
    subst P c.in-Some.ensures.value (rw (other, place)
    (IsUpTo-le (string_bytes c.index-names-other.result) (string_bytes c.index-names-place.result) c.le.result c.le.ensures yes'))

pub returns-in-Some-clause-free : goal.returns-in-Some-clause-free
returns-in-Some-clause-free c = λ no'.
    let names = c.args.names.now in
    let h = (c.requires.each c.args.here c.in-Some.other.now (sym c.in-Some.ensures.value)).1 in
    let other = name_at-names_of names c.in-Some.other.now c.index-names-other.result c.index-names-other.is
    (omega (arith, h, length-names_of names)) in
    let place = name_at-names_of names c.args.place c.index-names-place.result c.index-names-place.is c.requires.within in
    let P : Option ℕ → Type 0 = λ o. IfSome o (λ y. IsUpTo (name_at (names_of names) c.args.place) (name_at (names_of names) y)) in
    subst P c.in-Some.ensures.value (rw (other, place)
    (IsUpTo-not_le (string_bytes c.index-names-other.result) (string_bytes c.index-names-place.result) c.le.result c.le.ensures no'))
