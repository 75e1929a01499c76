-- A table as its definition has it.
--   table_of            the cache, the open flights and the counts
--   cells_of            the cells of these flights
--   limit_of, room_of   how many bytes may be kept, and how many entries a list
--   wide_leads          how many wide flights the calls of a pass led
use Rattle.std.specs.Prelude.{ℕ, Bool, Option}
use Rattle.std.specs.NonZero.{non_zero_usize_get}
use Rattle.iiif_tables.specs.Flights.{Table as Plain}
use Rattle.iiif_tables.specs.declared.table.Class.{Class}
use Rattle.iiif_byte_cache.specs.View.{cache_of}
use Rattle.iiif_singleflight.specs.Seen.{each_of, the_flight, the_cell}
use Rattle.iiif_singleflight.specs.Held.{open_at, in_flight}
use Rattle.iiif_singleflight.specs.declared.pass.Pass.{Pass}
use Rattle.iiif_singleflight.specs.declared.table.Limit.{Limit}
use Rattle.iiif_singleflight.specs.declared.table.Table.{Table}

module _ {K J L V : Type 0} {a b c d : _} (eq : K → K → Bool) where
  -- the cache, the open flights and how many there are, and the counts
  abbrev pub table_of : Table K J L V a b c d → Plain K V
  table_of t = record {
    cache = cache_of t.cache;
    flights = each_of the_flight (open_at eq t.opens);
    in_flight = in_flight t.opens;
    book = t.book;
  }

  -- the cells in which the outcomes of the open flights will stand
  abbrev pub cells_of : Table K J L V a b c d → Class → K → Option ℕ
  cells_of t = each_of the_cell (open_at eq t.opens)

-- the bytes and the entries of a limit
abbrev pub limit_of : {L : Type 0} → Limit L → ℕ
limit_of l = l.bytes

abbrev pub room_of : {L : Type 0} → Limit L → ℕ
room_of l = non_zero_usize_get l.entries

-- a pass counts the wide flights that its calls led
abbrev pub wide_leads : {L : Type 0} → Pass L → ℕ
wide_leads p = p.led
