-- Flights, leads, receipts and entries as their holders see them.
--   flight_key, _ticket, _cell, _known    a flight's key and number, the name of its cell, and what is known to stand there
--   lead_key, _ticket, _cell, _known      these of the flight that is led, and its class (lead_class)
--   receipt_ticket, _cell, _known         these of a receipt
--   SameReceipt                           receipts that know the same of one flight
--   kept_of, entry_known, is_of           an entry as tables have it, what its receipt knows, and whether that is of a key
use Rattle.std.specs.Prelude.{◌≡◌, ℕ, ◌+◌, Bool, false, List, length, Option, None, Some}
use Rattle.std.specs.Arc.{arc_value}
use Rattle.iiif_tables.specs.Cache.{Kept}
use Rattle.iiif_tables.specs.declared.table.Class.{Class}
use Rattle.iiif_outcome.specs.declared.entry.Entry.{Entry}
use Rattle.iiif_outcome.specs.declared.flight.Flight.{Flight}
use Rattle.iiif_outcome.specs.declared.landed.Landed.{Landed}
use Rattle.iiif_outcome.specs.declared.lead.Lead.{Lead}
use Rattle.iiif_outcome.specs.declared.receipt.Receipt.{Receipt}

-- how many bytes a key and its value take together, by these encodings
abbrev pub entry_size : {K V : Type 0} → (K → List ℕ) → (V → List ℕ) → K → V → ℕ
entry_size key_bytes val_bytes k v = length (key_bytes k) + length (val_bytes v)

-- it is the outcome of a flight for a key that is equal to this one
abbrev pub is_known_for : {K J V : Type 0} {a b c d : _} → (K → K → Bool) → K → Option (Landed K J V a b c d) → Bool
is_known_for eq k None = false
is_known_for eq k (Some x) = eq k (arc_value x.key)

module _ {K J L V : Type 0} {a b c d : _} where
  -- the key and the ticket of a flight, the name of the cell of its outcome, and what its holder knows to stand there
  abbrev pub flight_key : Flight K J L V a b c d → K
  flight_key f = arc_value f.key

  abbrev pub flight_ticket : Flight K J L V a b c d → ℕ
  flight_ticket f = f.ticket

  abbrev pub flight_cell : Flight K J L V a b c d → ℕ
  flight_cell f = f.note.cell

  abbrev pub flight_known : Flight K J L V a b c d → Option (Landed K J V a b c d)
  flight_known f = f.note.known

  -- the same of the flight that is led, and its class
  abbrev pub lead_key : Lead K J L V a b c d → K
  lead_key l = flight_key l.flight

  abbrev pub lead_ticket : Lead K J L V a b c d → ℕ
  lead_ticket l = flight_ticket l.flight

  abbrev pub lead_cell : Lead K J L V a b c d → ℕ
  lead_cell l = flight_cell l.flight

  abbrev pub lead_known : Lead K J L V a b c d → Option (Landed K J V a b c d)
  lead_known l = flight_known l.flight

  abbrev pub lead_class : Lead K J L V a b c d → Class
  lead_class l = l.class

  -- the ticket of a receipt's flight, the name of its cell, and what stands there
  abbrev pub receipt_ticket : Receipt K J L V a b c d → ℕ
  receipt_ticket r = r.ticket

  abbrev pub receipt_cell : Receipt K J L V a b c d → ℕ
  receipt_cell r = r.note.cell

  abbrev pub receipt_known : Receipt K J L V a b c d → Option (Landed K J V a b c d)
  receipt_known r = r.note.known

  -- two receipts are of one flight, and know the same
  pub record SameReceipt (r s : Receipt K J L V a b c d) : Type 0 where
    pub ticket : receipt_ticket s ≡ receipt_ticket r
    pub cell : receipt_cell s ≡ receipt_cell r
    pub known : receipt_known s ≡ receipt_known r

  -- an entry as tables have it: its value, with the ticket of the flight that landed with it
  abbrev pub kept_of : Entry K J L V a b c d → Kept V
  kept_of e = record { value = arc_value e.value; ticket = e.receipt.ticket }

  -- the content of that flight's cell
  abbrev pub entry_known : Entry K J L V a b c d → Option (Landed K J V a b c d)
  entry_known e = receipt_known e.receipt

  abbrev pub is_of : (K → K → Bool) → K → Entry K J L V a b c d → Bool
  is_of eq k e = is_known_for eq k (entry_known e)
