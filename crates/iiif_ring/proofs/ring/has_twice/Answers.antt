use Rattle.std.proofs.Common.{◌≡◌, ℕ, ◌<◌, List, [], length, sym, ◌∙◌, arith, below_more}
use Rattle.std.proofs.lemmas.List.{get_or_default}
use Rattle.std.proofs.lemmas.Slice.Eq.{slice_eq-Decides}
use Rattle.std.proofs.lemmas.Bool.{both_ways}
use Rattle.std.proofs.lemmas.Bool.Decides.{Decides-eqb}
use Rattle.std.specs.String.{string_bytes}
use Rattle.iiif_ring.specs.Names.{names_of}
use Rattle.iiif_ring.proofs.Names.{name_at-names_of, length-names_of}
use Rattle.iiif_ring.proofs.ring.has_twice.Goals as goal

pub returns-then-eq-clause-twice : goal.returns-then-eq-clause-twice
returns-then-eq-clause-twice c = λ _.
    let names = c.args.names.now in
    let texts : List (List ℕ) = names_of names in
    let one = string_bytes c.index-names-early.result in
    let other = string_bytes c.index-names-late.result in
    let early = name_at-names_of names c.loop-early.early c.index-names-early.result c.index-names-early.is (omega arith) in
    let late = name_at-names_of names c.loop-late.late c.index-names-late.result c.index-names-late.is (omega arith) in
    let same : one ≡ other = (slice_eq-Decides Decides-eqb one other c.eq.result c.eq.ensures).0 c.if-eq.true in
    let within : c.loop-late.late < length texts = omega (arith, length-names_of names) in
    let below : c.loop-early.early < length texts = omega (arith, length-names_of names) in
    record {
      early = c.loop-early.early;
      late = c.loop-late.late;
      before = omega arith;
      within = within;
      same = λ d. get_or_default texts c.loop-early.early d [] below ∙ early ∙ same ∙ sym late ∙
          get_or_default texts c.loop-late.late [] d within;
    }

pub loop-early-preserved : goal.loop-early-preserved
loop-early-preserved c = below_more _ _ c.loop-early.invariant (λ met.
    let names = c.args.names.now in
    let one = string_bytes c.index-names-early.result in
    let other = string_bytes c.index-names-late.result in
    let early = name_at-names_of names c.loop-early.early c.index-names-early.result c.index-names-early.is (omega arith) in
    let late = name_at-names_of names c.loop-late.late c.index-names-late.result c.index-names-late.is (omega arith) in
    both_ways c.eq.result c.if-eq.false ((slice_eq-Decides Decides-eqb one other c.eq.result c.eq.ensures).1 (sym early ∙ met ∙ late)))

pub returns-clause-distinct : goal.returns-clause-distinct
returns-clause-distinct c = λ _ i j d before within met.
    let names = c.args.names.now in
    let texts : List (List ℕ) = names_of names in
    let below : i < length texts = omega arith in
    let inside : j < c.loop-late.late = omega (arith, length-names_of names) in
    c.loop-late.invariant i j before inside (get_or_default texts i [] d below ∙ met ∙ get_or_default texts j d [] within)
