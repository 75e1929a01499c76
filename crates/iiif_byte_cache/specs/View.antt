-- A cache as tables have it.
--   lists_of, cache_of   two lists with a limit, and a cache
--   side                 the side of a put
--   IsRefusal            why an entry was handed back
use Rattle.std.specs.Prelude.{◌≡◌, ℕ, Bool, true, false}
use Rattle.iiif_tables.specs.Cache.{Cache, Side, main_side, hot_side}
use Rattle.iiif_outcome.specs.Views.{kept_of}
use Rattle.iiif_byte_cache.specs.Rows.{rows}
use Rattle.iiif_byte_cache.specs.declared.recent.Recent.{Recent}
use Rattle.iiif_byte_cache.specs.declared.cache.ByteCache.{ByteCache}
use Rattle.iiif_byte_cache.specs.declared.cache.PutFault.{PutFault}
use Rattle.iiif_byte_cache.specs.declared.cache.PutFault.TheVariants.{TooBig, NoMemory}

-- two lists with a limit
abbrev pub lists_of : {K J L V : Type 0} {a b c d : _} → Recent K J L V a b c d → Recent K J L V a b c d → ℕ → Cache K V
lists_of main hot limit = record {
  main = rows kept_of main.list.entries;
  hot = rows kept_of hot.list.entries;
  limit = limit;
  room =
      main.list.cap;
}

-- its two lists, what they may take, and how many entries each may have
abbrev pub cache_of : {K J L V : Type 0} {a b c d : _} → ByteCache K J L V a b c d → Cache K V
cache_of c = lists_of c.lists.main c.lists.hot c.limit

-- the side that a put is for
abbrev pub side : Bool → Side
side true = hot_side
side false = main_side

-- Why an entry was not put, and that it is handed back with its key. Memory runs out only for one that isn't too big, and for a key
-- that isn't there.
abbrev pub IsRefusal : {K E : Type 0} → K → E → Bool → Bool → PutFault K E → Type 0
IsRefusal key entry big there (TooBig k e) = (k ≡ key) × (e ≡ entry) × (big ≡ true)
IsRefusal key entry big there (NoMemory k e) = (k ≡ key) × (e ≡ entry) × (big ≡ false) × (there ≡ false)
