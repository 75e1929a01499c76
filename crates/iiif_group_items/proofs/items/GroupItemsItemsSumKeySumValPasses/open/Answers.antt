use Rattle.std.proofs.Common.{arith, ◌<◌, ◌≤◌, List, All, IsTrue, length, sym, subst}
use Rattle.iiif_keys.specs.Meaning.{sums_below}
use Rattle.iiif_keys.specs.declared.fault.Fault.{Fault}
use Rattle.iiif_keys.specs.declared.keys.SumKey.{SumKey}
use Rattle.iiif_outcome.specs.Outcomes.{is_given}
use Rattle.iiif_sum_group.proofs.SumLemmas.{few_parts}
use Rattle.iiif_assemble.specs.Opening.{IsPart}
use Rattle.iiif_group_items.specs.Values.{SumIsNamed}
use Rattle.iiif_group_items.proofs.PartLemmas.{quarters_are_parts}
use Rattle.iiif_group_items.proofs.items.GroupItemsItemsSumKeySumValPasses.open.Goals as goal

pub returns-in-Ok-Load-clause-opened : goal.returns-in-Ok-Load-clause-opened
returns-in-Ok-Load-clause-opened g c =
    let key = c.args.key.now in
    let exact = c.parts_are_exact.ensures in
    let above : 0 < key.level = omega (arith, c.if-key-lt-SHARED.false) in
    let are = c.in_ok-parts.ensures.parts in
    let begun = rw c.in-Ok-Load.field-0-is at c.in-Ok-Load.ensures.begins.begun in
    let P = IsPart (SumIsNamed g.J.System.pictures g.J.System.edge) (λ (q : SumKey). q.level)
    (λ (q : SumKey) (f : Fault). IsTrue (is_given (g.J.System.gave q.name) f)) key in
    let all : All P (sums_below key) =
    quarters_are_parts exact.below exact.fit g.J.System.pictures g.J.System.edge g.J.System.gave key above c.requires in
    let few : length c.in_ok-parts.parts.items ≤ 4 = subst (λ (ks : List SumKey). length ks ≤ 4) (sym are) (few_parts key) in
    ((begun, are, above), subst (All P) (sym are) all, few)
