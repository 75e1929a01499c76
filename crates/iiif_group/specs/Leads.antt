-- Flights that lead, and the node that is asked for one, as their holders see them.
--
--   asked_lead, answered_lead, answered_value   the lead of a flight whose owner was asked, and the value that it gave
--   peer_key, peer_link                         the bytes of the key that the node owns, and the link to it
--   settled_lead, settled_outcome, settled_place   the lead of a flight that is to land, its outcome, and the place for its value
use Rattle.std.specs.Prelude.{ℕ, List, Result}
use Rattle.std.specs.declared.alloc.Global.{Global}
use Rattle.std.specs.declared.sync.Arc.{Arc}
use Rattle.iiif_keys.specs.declared.fault.Fault.{Fault}
use Rattle.iiif_tables.specs.declared.table.Place.{Place}
use Rattle.iiif_singleflight.specs.declared.checked.CheckedLead.{CheckedLead}
use Rattle.iiif_group.specs.declared.asked.Answered.{Answered}
use Rattle.iiif_group.specs.declared.asked.Asked.{Asked}
use Rattle.iiif_group.specs.declared.asked.SettledFlight.{SettledFlight}
use Rattle.iiif_group.specs.declared.asked.Peer.{Peer}

-- The bytes of the key, and the link.
abbrev pub peer_key : {N : Type 0} → Peer N → List ℕ
peer_key p = p.key.now

abbrev pub peer_link : {N : Type 0} → Peer N → N
peer_link p = p.link.now

module _ {K J L V : Type 0} {a b c d : _} where
  -- The lead, the outcome and the place.
  abbrev pub settled_lead : SettledFlight K J L V a b c d → CheckedLead K J L V a b c d
  settled_lead l = l.lead

  abbrev pub settled_outcome : SettledFlight K J L V a b c d → Result (Arc V Global) Fault
  settled_outcome l = l.outcome

  abbrev pub settled_place : SettledFlight K J L V a b c d → Place
  settled_place l = l.place

module _ {K J L V : Type 0} {a b c d e : _} where
  -- The lead of the flight, and the value.
  abbrev pub asked_lead : Asked K J L V a b c d e → CheckedLead K J L V a b c d
  asked_lead l = l.lead

  abbrev pub answered_lead : Answered K J L V a b c d e → CheckedLead K J L V a b c d
  answered_lead l = l.lead

  abbrev pub answered_value : Answered K J L V a b c d e → V
  answered_value l = l.value
