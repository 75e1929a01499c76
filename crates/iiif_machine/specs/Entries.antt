-- How the lists of the code are a cache.
use Rattle.std.specs.Prelude.{List, map, Bool, true, false}
use Rattle.iiif_tables.specs.Cache.{Kept, Cache, Side, main_side, hot_side}
use Rattle.iiif_machine.specs.declared.keys.Key.{Key}
use Rattle.iiif_machine.specs.declared.keys.Value.{Value}
use Rattle.iiif_machine.specs.declared.listing.Entry.{Entry}
use Rattle.iiif_machine.specs.declared.listing.Found.{Found}
use Rattle.iiif_machine.specs.declared.caching.PlainCache.{PlainCache}

abbrev pub entry_of : Entry → Key × Kept Value
entry_of e = (e.key, record { value = e.value; ticket = e.ticket })

abbrev pub rows : List Entry → List (Key × Kept Value)
rows es = map entry_of es

abbrev pub cache_of : PlainCache → Cache Key Value
cache_of c = record { main = rows c.main.items; hot = rows c.hot.items; limit = c.limit; room = c.room }

abbrev pub side : Bool → Side
side true = hot_side
side false = main_side

abbrev pub kept_of : Found → Kept Value
kept_of f = record { value = f.value; ticket = f.ticket }
