use Rattle.std.proofs.Common.{[], ◌∷◌, ◌≤◌, arith, length-append}
use Rattle.std.proofs.lemmas.List.Elements.{All-push}
use Rattle.iiif_keys.proofs.Numbers.{short_below}
use Rattle.iiif_keys.proofs.ValueBytes.{short_more}
use Rattle.iiif_keys.proofs.tile_val_bytes.shorts.Goals as goal

pub loop-i-preserved : goal.loop-i-preserved
loop-i-preserved c = record {
  count = rw c.in_ok-push.ensures.items (omega (arith, length-append c.loop-i.numbers.items (c.short_at.result ∷ [])));
  bound = rw c.in_ok-push.ensures.items (All-push (λ n. n ≤ 65535) c.loop-i.numbers.items c.short_at.result c.loop-i.invariant.bound
      (rw c.short_at.ensures (short_below c.args.bytes.now _ (λ i. omega (arith, c.type_inv.bytes i)))));
  read = rw c.in_ok-push.ensures.items (short_more c.args.bytes.now c.loop-i.i c.short_at.result c.loop-i.numbers.items
      (λ i. omega (arith, c.type_inv.bytes i)) (omega arith) c.short_at.ensures c.loop-i.invariant.read);
}
