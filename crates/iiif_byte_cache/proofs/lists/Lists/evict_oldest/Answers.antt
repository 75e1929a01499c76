use Rattle.std.proofs.Common.{sym, ◌∙◌, refl, arith}
use Rattle.iiif_tables.proofs.CacheLaws.{large, not_large, victim_hot, victim_main, evict_hot, evict_main, same_cache}
use Rattle.iiif_outcome.specs.Views.{entry_size}
use Rattle.iiif_byte_cache.specs.View.{lists_of}
use Rattle.iiif_byte_cache.proofs.lists.Lists.evict_oldest.Goals as goal

pub returns-then-self : goal.returns-then-self
returns-then-self g c =
    let size = entry_size g.K.CacheKey.key_bytes g.K.CacheKey.val_bytes in
    record {
      victim = λ limit.
          let old = lists_of c.args.self.now.main c.args.self.now.hot limit in
          c.pop.ensures.oldest
          ∙ sym (victim_hot size old (large size old _ _ c.args.self.now.main.sum c.args.self.now.hot.sum c.if-self.true));
      rest = λ limit.
          let old = lists_of c.args.self.now.main c.args.self.now.hot limit in
          same_cache _ _ _ _ _ _ _ refl c.pop.ensures.rows refl
          ∙ sym (evict_hot size old (large size old _ _ c.args.self.now.main.sum c.args.self.now.hot.sum c.if-self.true));
      room = (refl, c.pop.ensures.room);
      bytes = omega (arith, c.pop.ensures.bytes);
    }

pub returns-else-self : goal.returns-else-self
returns-else-self g c =
    let size = entry_size g.K.CacheKey.key_bytes g.K.CacheKey.val_bytes in
    record {
      victim = λ limit.
          let old = lists_of c.args.self.now.main c.args.self.now.hot limit in
          c.pop-else-self.ensures.oldest
          ∙ sym (victim_main size old (not_large size old _ _ c.args.self.now.main.sum c.args.self.now.hot.sum c.if-self.false));
      rest = λ limit.
          let old = lists_of c.args.self.now.main c.args.self.now.hot limit in
          same_cache _ _ _ _ _ _ _ c.pop-else-self.ensures.rows refl c.pop-else-self.ensures.room
          ∙ sym (evict_main size old (not_large size old _ _ c.args.self.now.main.sum c.args.self.now.hot.sum c.if-self.false));
      room = (c.pop-else-self.ensures.room, refl);
      bytes = omega (arith, c.pop-else-self.ensures.bytes);
    }
