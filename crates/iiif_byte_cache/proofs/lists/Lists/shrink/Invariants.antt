use Rattle.std.proofs.Common.{◌≡◌, ◌+◌, ◌-◌, ◌^◌, ◌<◌}
use Rattle.iiif_tables.specs.Cache.{evict_at_most, shrink}
use Rattle.iiif_outcome.specs.Views.{entry_size}
use Rattle.iiif_byte_cache.specs.View.{lists_of}
use Rattle.iiif_byte_cache.proofs.lists.Lists.shrink.Given as goal

-- those that are still to go, if need be, leave what is wanted
abbrev pub invariant-loop : goal.invariant-loop
invariant-loop g l = record {
  lists : evict_at_most (entry_size g.K.CacheKey.key_bytes g.K.CacheKey.val_bytes) (l.count - l.counter)
      (lists_of l.self.main l.self.hot l.limit)
      ≡ shrink (entry_size g.K.CacheKey.key_bytes g.K.CacheKey.val_bytes) (lists_of l.fn.self.main l.fn.self.hot l.fn.limit);
  limit : l.limit ≡ l.fn.limit;
  main : l.self.main.list.cap ≡ l.fn.self.main.list.cap;
  hot : l.self.hot.list.cap ≡ l.fn.self.hot.list.cap;
  fits : l.self.main.bytes + l.self.hot.bytes < 2 ^ 64;
}
