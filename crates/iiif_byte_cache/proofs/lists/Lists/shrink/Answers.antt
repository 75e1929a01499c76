use Rattle.std.proofs.Common.{◌≡◌, suc, ◌+◌, ◌-◌, arith, sym, ap, ◌∙◌, refl}
use Rattle.iiif_tables.specs.Cache.{bytes_in, evict_at_most, shrink}
use Rattle.iiif_tables.proofs.CacheLaws.{evict_none, evict_one, evict_zero, shrink_within}
use Rattle.iiif_outcome.specs.Views.{entry_size}
use Rattle.iiif_byte_cache.specs.View.{lists_of}
use Rattle.iiif_byte_cache.proofs.lists.Lists.shrink.Goals as goal

pub returns-then-bytes-limit : goal.returns-then-bytes-limit
returns-then-bytes-limit g c =
    let now = lists_of c.loop.self.main c.loop.self.hot c.args.limit in
    record {
      lists = sym (evict_none (entry_size g.K.CacheKey.key_bytes g.K.CacheKey.val_bytes) _ now
          (omega (arith, c.if-bytes-limit.true, c.bytes.ensures, c.loop.self.main.sum, c.loop.self.hot.sum))) ∙ c.loop.invariant.lists;
      within = omega (arith, c.if-bytes-limit.true, c.bytes.ensures);
      room = (c.loop.invariant.main, c.loop.invariant.hot);
    }

pub loop-preserved : goal.loop-preserved
loop-preserved g c =
    let size = (entry_size g.K.CacheKey.key_bytes g.K.CacheKey.val_bytes) in
    let count = c.len.result + c.len-2.result in
    let now = lists_of c.loop.self.main c.loop.self.hot c.args.limit in
    let n = count - (c.loop.counter + 1) in
    let one : suc n ≡ count - c.loop.counter = omega (arith, c.loop-test.true) in
    record {
      lists = ap (evict_at_most size n) (c.evict_oldest.ensures.rest c.args.limit)
          ∙ sym (evict_one size n now (omega (arith, c.if-bytes-limit.false, c.bytes.ensures, c.loop.self.main.sum, c.loop.self.hot.sum)))
          ∙ ap (λ m. evict_at_most size m now) one
          ∙ c.loop.invariant.lists;
      limit = refl;
      main = c.evict_oldest.ensures.room.0 ∙ c.loop.invariant.main;
      hot = c.evict_oldest.ensures.room.1 ∙ c.loop.invariant.hot;
      fits = omega (arith, c.evict_oldest.ensures.bytes, c.loop.invariant.fits);
    }

pub returns : goal.returns
returns g c =
    let size = entry_size g.K.CacheKey.key_bytes g.K.CacheKey.val_bytes in
    let now = lists_of c.loop.self.main c.loop.self.hot c.args.limit in
    let old = lists_of c.args.self.now.main c.args.self.now.hot c.args.limit in
    let none : 0 ≡ c.len.result + c.len-2.result - c.loop.counter = omega (arith, c.loop-test.false) in
    let lists : now ≡ shrink size old = sym (evict_zero size now) ∙ ap (λ m. evict_at_most size m now) none ∙ c.loop.invariant.lists in
    record {
      lists = lists;
      within = omega (arith, ap (bytes_in size) lists, shrink_within size old, c.loop.self.main.sum, c.loop.self.hot.sum);
      room = (c.loop.invariant.main, c.loop.invariant.hot);
    }
