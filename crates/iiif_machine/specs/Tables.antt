-- A node's table, as the machine sees it: what a call meets, what is kept, and which flights are open.
use Rattle.std.specs.Prelude.{◌≡◌, ℕ, ◌⊎◌, List, Bool, Option, Some, None, Result, Ok, Err, fold, slice_get}
use Rattle.iiif_tables.specs.Cache.{Kept, without}
use Rattle.iiif_tables.specs.Flights as tables
use Rattle.iiif_machine.specs.Keys.{key_eq, entry_size}
pub use Rattle.iiif_tables.specs.declared.table.Class.{Class}
pub use Rattle.iiif_tables.specs.declared.table.Class.TheVariants.{Wide, Local}
pub use Rattle.iiif_tables.specs.declared.table.Place.{Place}
pub use Rattle.iiif_tables.specs.declared.table.Place.TheVariants.{Nowhere, Main, Peer}
use Rattle.iiif_machine.specs.Types.{Key, Value, ReadFault}

-- a value, or the fault of a source
abbrev pub Outcome : Type 0
Outcome = Result Value ReadFault

-- one type for the table of tiles and that of sums
abbrev pub Table : Type 0
Table = tables.Table Key Value

-- what a call that enters meets: a kept value, an open flight, or neither, and then it leads a flight with this ticket
pub data Entered : Type 0 where
  finds : (value : Value) → Entered
  joins : Entered
  leads : (ticket : ℕ) → Entered

abbrev pub met : tables.Entered Value → Entered
met (tables.hit e) = finds e.value
met (tables.joined n) = joins
met (tables.led n) = leads n

-- A call enters: what it meets, and the table after it.
unfoldable pub enter : Table → Key → Class → Entered × Table
enter t k c = (met (tables.enter key_eq c k t).0, (tables.enter key_eq c k t).1)

-- A leader looks again: the value, if it is kept by now, and the table after it.
unfoldable pub again : Table → Key → Class → ℕ → (Option Value) × Table
again t k c n = tables.again key_eq c k n t

abbrev pub value_of : Outcome → Option Value
value_of (Ok v) = Some v
value_of (Err f) = None

-- A flight lands with an outcome, whose value is kept by its place, where it is kept.
unfoldable pub land : Table → Key → Class → ℕ → Outcome → Place → Bool → Table
land t k c n o p kept = tables.land key_eq entry_size kept c k n (value_of o) p t

-- the entries of these keys go
unfoldable pub evicted : Table → List Key → Table
evicted t ks = record t { cache = fold (λ c k. without key_eq k c) t.cache ks }

-- the table begins anew, with its limits
unfoldable pub emptied : Table → Table
emptied t = tables.empty_table t.cache.limit t.cache.room

-- a list has this value for the key
abbrev pub Lists : List (Key × Kept Value) → Key → Value → Type 0
Lists es k v = (i : ℕ) × (n : ℕ) × (slice_get es i ≡ Some (k, record { value = v; ticket = n }))

-- the table has this value for the key
unfoldable pub Holds : Table → Key → Value → Type 0
Holds t k v = Lists t.cache.main k v ⊎ Lists t.cache.hot k v

-- a flight of this key and class is open, and has this ticket
unfoldable pub IsOpen : Table → Key → Class → ℕ → Type 0
IsOpen t k c n = (f : tables.Flight) × (t.flights c k ≡ Some f) × (f.ticket ≡ n)
