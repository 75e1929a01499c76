-- The open flights of a table.
use Rattle.std.specs.Prelude.{List, [], ◌∷◌, ◌&&◌, Bool, true, not, is_some, Option, Some, None, if◌then◌else◌}
use Rattle.iiif_tables.specs.Flights as tables
use Rattle.iiif_tables.specs.declared.table.Class.{Class}
use Rattle.iiif_machine.specs.declared.keys.Key.{Key}
use Rattle.iiif_machine.specs.Keys.{key_eq}
use Rattle.iiif_machine.specs.declared.table.OpenFlight.{OpenFlight}

abbrev pub is_named : Class → Key → OpenFlight → Bool
is_named c k f = tables.same_class f.class c && key_eq f.key k

abbrev pub seen : OpenFlight → tables.Flight
seen f = record { ticket = f.ticket; found = f.found }

-- the first flight of the list with this class and key
abbrev pub flight_in : List OpenFlight → Class → Key → Option tables.Flight
flight_in [] c k = None
flight_in (f ∷ fs) c k = if is_named c k f then Some (seen f) else flight_in fs c k

-- whether each class and key stand there once
abbrev pub are_once : List OpenFlight → Bool
are_once [] = true
are_once (f ∷ fs) = not (is_some (flight_in fs f.class f.key)) && are_once fs
