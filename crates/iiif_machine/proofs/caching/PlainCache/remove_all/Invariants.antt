use Rattle.std.proofs.Common.{◌≡◌, take}
use Rattle.std.specs.Prelude.{fold}
use Rattle.iiif_tables.specs.Cache.{without}
use Rattle.iiif_machine.specs.Keys.{key_eq}
use Rattle.iiif_machine.specs.Entries.{cache_of}
use Rattle.iiif_machine.proofs.caching.PlainCache.remove_all.Given as goal

abbrev pub invariant-loop-key : goal.invariant-loop-key
invariant-loop-key l = cache_of l.self ≡ fold (λ c k. without key_eq k c) (cache_of l.fn.self) (take l.key-index l.keys)
