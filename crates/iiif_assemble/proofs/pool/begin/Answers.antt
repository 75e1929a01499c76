use Rattle.std.proofs.Common.{inl, inr, ⊎_elim, sym, ap, length, arith, map, length-append, ◌∷◌, []}
use Rattle.std.specs.Arc.{arc_value}
use Rattle.iiif_assemble.proofs.ZipLemmas.{one_kept, failed_here}
use Rattle.iiif_assemble.proofs.pool.begin.Goals as goal

pub loop-n-preserved : goal.loop-n-preserved
loop-n-preserved g c =
    let kept = c.in_ok-keep-in-Ok.ensures.ok in
    record {
      count = omega (arith, ap length kept, length-append c.loop-n.values.items (c.in-Ok.value ∷ []), c.loop-n.invariant.count);
      values = one_kept arc_value (g.G.Items.means c.args.pool.now.group.now) c.args.keys.now c.args.items.now c.loop-n.values.items
          c.keep.new.values.items c.loop-n.n
          c.index-keys-items.result c.in-Ok.value c.loop-n-test.true c.loop-n.invariant.values
          (c.requires.within c.loop-n.n 0 c.loop-n-test.true)
          (sym c.index-keys-items.is) c.in-Ok.ensures.value kept;
    }

pub returns-in-Err-clause-fault : goal.returns-in-Err-clause-fault
returns-in-Err-clause-fault g c =
    ⊎_elim (λ e. inl e)
    (λ f. inr (failed_here (g.G.Items.means c.args.pool.now.group.now) (g.G.Items.failed c.args.pool.now.group.now) c.args.keys.now
    c.args.items.now (map arc_value c.loop-n.values.items) c.loop-n.n
    c.index-keys-items.result c.in-Err.fault c.loop-n-test.true c.loop-n.invariant.values
    (c.requires.within c.loop-n.n 0 c.loop-n-test.true) (sym c.index-keys-items.is) f))
    c.in-Err.ensures.fault
