-- Flights that land, by their lead and their outcome.
use Rattle.std.proofs.Common.{Result, subst}
use Rattle.std.specs.declared.alloc.Global.{Global}
use Rattle.std.specs.declared.sync.Arc.{Arc}
use Rattle.iiif_keys.specs.declared.cache_key.CacheKey as cache_key
use Rattle.iiif_keys.specs.declared.fault.Fault.{Fault}
use Rattle.iiif_keys.specs.declared.system.System as system
use Rattle.iiif_tables.specs.declared.table.Place.{Place}
use Rattle.iiif_singleflight.specs.declared.checked.CheckedLead.{CheckedLead}
use Rattle.iiif_group.specs.Code.{Finishes, IsSettled}
use Rattle.iiif_group.specs.Leads.{settled_lead, settled_outcome}
use Rattle.iiif_group.specs.declared.asked.SettledFlight.{SettledFlight}
use Rattle.iiif_group.specs.declared.lookup.FlightEnd.{FlightEnd}

module _ {K J L V : Type 0} {a : cache_key.Ghosts K V} {b c : _} {d : system.Ghosts J} where
  -- A flight that lands with this lead and outcome finishes with them.
  pub finishes_as : (led : CheckedLead K J L V a b c d) (outcome : Result (Arc V Global) Fault) (place : Place)
      (settled : SettledFlight K J L V a b c d) (told : FlightEnd K J L V a b c d) → IsSettled led outcome place settled →
      Finishes (settled_lead settled) (settled_outcome settled) told → Finishes led outcome told
  finishes_as led outcome place settled told is h =
      subst (λ (l : CheckedLead K J L V a b c d). Finishes l outcome told) is.lead
      (subst (λ (o : Result (Arc V Global) Fault). Finishes (settled_lead settled) o told) is.outcome h)
