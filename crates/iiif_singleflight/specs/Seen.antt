-- Open flights as tables see them.
--   Seen, the_flight, the_cell   a flight with its cell, and its parts
--   with_at, each_of             a function of classes and keys changed at one place, or at each
--   found_of                     the flight whose leader found the value
use Rattle.std.specs.Prelude.{ℕ, Bool, true, Option, option_map, if◌then◌else◌}
use Rattle.std.specs.Map.{update}
use Rattle.iiif_tables.specs.Flights.{Flight, same_class}
use Rattle.iiif_tables.specs.declared.table.Class.{Class}

-- an open flight as the table's definition has it, and the cell in which its outcome will stand
pub record Seen : Type 0 where
  pub flight : Flight
  pub cell : ℕ

-- a function of classes and keys, with this value, or none, for a class and a key
abbrev pub with_at : {K X : Type 0} → (K → K → Bool) → Class → K → Option X → (Class → K → Option X) → Class → K → Option X
with_at eq class k x m c = if same_class class c then update eq (m c) k x else m c

abbrev pub the_flight : Seen → Flight
the_flight s = s.flight

abbrev pub the_cell : Seen → ℕ
the_cell s = s.cell

abbrev pub each_of : {K X Y : Type 0} → (X → Y) → (Class → K → Option X) → Class → K → Option Y
each_of f m c q = option_map f (m c q)

-- the same flight, whose leader found the value
abbrev pub found_of : Seen → Seen
found_of s = record s { flight = record s.flight { found = true } }
