use Rattle.std.proofs.Common.{arith, subst, sym}
use Rattle.std.specs.Arc.{arc_value}
use Rattle.std.proofs.lemmas.List.Elements.{All-get_or}
use Rattle.iiif_assemble.specs.declared.kept.KeptSum.{KeptSum}
use Rattle.iiif_assemble.proofs.KeptLemmas.{kept_more, of_items_more, one_longer}
use Rattle.iiif_assemble.proofs.kept.WithKept.kept_of.Goals as goal
use Rattle.iiif_assemble.proofs.kept.WithKept.kept_of.Goals.{then-is_of+in_ok-keep, else-is_of}

pub loop-sum-preserved : goal.loop-sum-preserved
loop-sum-preserved g c =
    let means = g.B.Items.means c.args.self.now.sums.now in
    let P : KeptSum → Type 0 = λ t. means t.key (arc_value t.value) in
    let s = c.sum-item.result in
    let before = c.loop-sum.rest.items in
    let own : P s = subst P (sym c.sum-item.is)
    (All-get_or P c.args.self.now.kept.now c.loop-sum.sum-index s c.loop-sum-test.true c.requires) in
    elim c.if-is_of.branch [
      | then-is_of+in_ok-keep w ↦
          rw w.rest-is (record {
            kept = kept_more means before w.keep.new.kept.items s.key (arc_value s.value) c.loop-sum.invariant.kept own
                w.in_ok-keep.ensures;
            own = of_items_more c.args.keys.now c.args.items.now before w.keep.new.kept.items s.key (arc_value s.value)
                c.loop-sum.invariant.own (c.is_of.ensures w.if-is_of.true) w.in_ok-keep.ensures;
            few = omega (
              arith,
              c.loop-sum.invariant.few,
              one_longer before w.keep.new.kept.items s.key (arc_value s.value) w.in_ok-keep.ensures,
            );
          })
      | else-is_of w ↦
          rw w.rest-is (record {
            kept = c.loop-sum.invariant.kept;
            own = c.loop-sum.invariant.own;
            few = omega (arith, c.loop-sum.invariant.few);
          })
    ]
