use Rattle.std.proofs.Common.{refl}
use Rattle.iiif_tables.specs.Cache.{without as lacking}
use Rattle.iiif_tables.proofs.CacheLaws.{same_cache}
use Rattle.iiif_machine.proofs.caching.PlainCache.remove.Goals as goal

pub returns : goal.returns
unfolding lacking
returns c = same_cache _ _ _ _ _ _ _ c.remove_in.ensures c.remove_in-2.ensures refl
