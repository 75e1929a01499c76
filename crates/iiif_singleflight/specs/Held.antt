-- Open flights as a function of class and key.
--   seen, held, open_at   one flight, a class's, and all, as tables see them
--   per_class             one of two values, by class
--   in_flight                 how many flights are open
use Rattle.std.specs.Prelude.{ℕ, ◌+◌, Bool, Option, option_map}
use Rattle.std.specs.HashMap.{HashMap, get, hash_map_len}
use Rattle.iiif_tables.specs.declared.table.Class.{Class}
use Rattle.iiif_tables.specs.declared.table.Class.TheVariants.{Wide, Local}
use Rattle.iiif_outcome.specs.Views.{flight_cell, flight_ticket}
use Rattle.iiif_singleflight.specs.Seen.{Seen}
use Rattle.iiif_singleflight.specs.declared.flights_of_class.OpenFlight.{OpenFlight}
use Rattle.iiif_singleflight.specs.declared.open_flights.OpenFlights.{OpenFlights}

-- an open flight as it is seen
abbrev pub seen : {K J L V : Type 0} {a b c d : _} → OpenFlight K J L V a b c d → Seen
seen o = record { flight = record { ticket = flight_ticket o.flight; found = o.found }; cell = flight_cell o.flight }

-- the open flight of a key
abbrev pub held : {K J L V S : Type 0} {a b c d : _} → (K → K → Bool) → HashMap K (OpenFlight K J L V a b c d) S → K → Option Seen
held eq m q = option_map seen (get eq m q)

-- one of two, by class
abbrev pub per_class : {A : Type 0} → A → A → Class → A
per_class w l Wide = w
per_class w l Local = l

-- the open flight of each class and key
abbrev pub open_at : {K J L V : Type 0} {a b c d : _} → (K → K → Bool) → OpenFlights K J L V a b c d → Class → K → Option Seen
open_at eq o c q = per_class (held eq o.wide.map q) (held eq o.local.map q) c

-- how many are open
abbrev pub in_flight : {K J L V : Type 0} {a b c d : _} → OpenFlights K J L V a b c d → ℕ
in_flight o = hash_map_len o.wide.map + hash_map_len o.local.map
