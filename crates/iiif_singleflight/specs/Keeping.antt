-- The list of a cache for a value that lands.
--   side_of    the side of a cache that a list is
--   list_for   the list for a place
use Rattle.std.specs.Prelude.{◌==◌, ◌%◌, ℕ, Option, Some, None, if◌then◌else◌}
use Rattle.iiif_tables.specs.Cache.{Side, main_side, hot_side}
use Rattle.iiif_tables.specs.declared.table.Place.{Place}
use Rattle.iiif_tables.specs.declared.table.Place.TheVariants as place
use Rattle.iiif_singleflight.specs.declared.keeping.List.{List}
use Rattle.iiif_singleflight.specs.declared.keeping.List.TheVariants.{Main, Hot}

-- the side of a cache that a list is
abbrev pub side_of : List → Side
side_of Main = main_side
side_of Hot = hot_side

-- a load goes to main; of peers' values, which are counted with this one, each tenth to hot; any other to no list
abbrev pub list_for : Place → ℕ → Option List
list_for place.Main peer = Some Main
list_for place.Peer peer = if peer % 10 == 0 then Some Hot else None
list_for place.Nowhere peer = None
