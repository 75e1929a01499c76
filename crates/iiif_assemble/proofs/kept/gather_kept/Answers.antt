use Rattle.std.proofs.Common.{arith, sym}
use Rattle.std.specs.Arc.{arc_value}
use Rattle.iiif_assemble.proofs.KeptLemmas.{each_more, kept_more}
use Rattle.iiif_assemble.proofs.ZipLemmas.{value_at, values_len}
use Rattle.iiif_assemble.proofs.kept.gather_kept.Goals as goal

pub index-requires : goal.index-requires
index-requires g c =
    let same = values_len arc_value (g.B.Items.means c.args.context.now.sums.now) c.args.keys.now c.args.items.now
    c.in_ok-values.values.items c.in_ok-values.ensures.values in
    omega (arith, same, c.loop-n-test.true)

pub loop-n-preserved : goal.loop-n-preserved
loop-n-preserved g c =
    let means = g.B.Items.means c.args.context.now.sums.now in
    let k = c.index-keys-items.result in
    let v = c.index.result.now in
    let meant = value_at arc_value means c.args.keys.now c.args.items.now c.in_ok-values.values.items c.loop-n.n k v
    c.in_ok-values.ensures.values c.loop-n-test.true
    (sym c.index-keys-items.is) (sym c.index.ensures) in
    record {
      kept = kept_more means c.loop-n.asked.items c.keep.new.kept.items k (arc_value v) c.loop-n.invariant.kept meant c.in_ok-keep.ensures;
      each = each_more c.args.keys.now c.args.items.now c.loop-n.asked.items c.keep.new.kept.items c.loop-n.n k (arc_value v)
          c.loop-n-test.true c.loop-n.invariant.each (c.requires.within c.loop-n.n 0 c.loop-n-test.true) (sym c.index-keys-items.is)
          c.in_ok-keep.ensures;
    }
