use Rattle.std.proofs.Common.{◌≡◌, ◌-◌}
use Rattle.iiif_tables.specs.Cache.{evict_at_most, shrink}
use Rattle.iiif_machine.specs.Keys.{entry_size}
use Rattle.iiif_machine.specs.Entries.{cache_of}
use Rattle.iiif_machine.proofs.caching.PlainCache.shrink.Given as goal

-- those that are still to go, if need be, leave what is wanted
abbrev pub invariant-loop : goal.invariant-loop
invariant-loop l = evict_at_most entry_size (l.count - l.counter) (cache_of l.self) ≡ shrink entry_size (cache_of l.fn.self)
