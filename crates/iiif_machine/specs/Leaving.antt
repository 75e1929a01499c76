-- What a node that stops takes, and an eviction, and what they leave; and when calls know.
use Rattle.std.specs.Prelude.{◌≡◌, ◌↔◌, ℕ, true, Some, None, slice_get}
use Rattle.iiif_tables.specs.Flights as tables
use Rattle.iiif_machine.specs.Tables.{Table, Outcome}
use Rattle.iiif_machine.specs.Rows.{Node, Caller, Call, In, Ended, Flight, RequestRow}
use Rattle.iiif_machine.specs.Worlds.{World, learned}
use Rattle.iiif_machine.specs.Steps.{Evict, Stop, is_open, step}
use Rattle.iiif_machine.specs.Promises.{IsAt}

-- the second table is new, with the limits of the first
abbrev pub BeginsAnew : Table → Table → Type 0
BeginsAnew t u = u ≡ tables.empty_table t.cache.limit t.cache.room

-- The node of this number begins anew, and its open flights end without an outcome.
pub record NodeEnds (i : ℕ) (w v : World) : Type 0 where
  pub tables : (n m : Node) → slice_get w.nodes i ≡ Some n → slice_get v.nodes i ≡ Some m → BeginsAnew n.tiles m.tiles ×
      BeginsAnew n.sums m.sums
  pub flights : (f : ℕ) (x : Flight) → slice_get w.flights f ≡ Some x → x.lead.node ≡ i → is_open x.stage ≡ true →
      slice_get v.flights f ≡ Some (record { lead = x.lead; stage = Ended None })

-- What isn't this node's stays as it is: other nodes, and their requests, calls and flights; and asks, replies and faults that were given.
pub record OthersStay (i : ℕ) (w v : World) : Type 0 where
  pub nodes : (j : ℕ) (n : Node) → ¬ (j ≡ i) → slice_get w.nodes j ≡ Some n → slice_get v.nodes j ≡ Some n
  pub requests : (r : ℕ) (q : RequestRow) → ¬ (q.info.node ≡ i) → slice_get w.requests r ≡ Some q → slice_get v.requests r ≡ Some q
  pub calls : (c : ℕ) (x : Call) → ¬ (x.caller.node ≡ i) → slice_get w.calls c ≡ Some x → slice_get v.calls c ≡ Some x
  pub flights : (f : ℕ) (x : Flight) → ¬ (x.lead.node ≡ i) → slice_get w.flights f ≡ Some x → slice_get v.flights f ≡ Some x
  pub asks : v.asks ≡ w.asks
  pub replies : v.replies ≡ w.replies
  pub given : v.given ≡ w.given

abbrev pub StopTakesItsOwn : Type 0
StopTakesItsOwn = (w v : World) (i : ℕ) → step w (Stop i) ≡ Some v → NodeEnds i w v × OthersStay i w v

-- a call in a flight knows an outcome exactly where the flight has ended with it
abbrev pub KnowsAtItsEnd : Type 0
KnowsAtItsEnd = (w : World) (c f : ℕ) (who : Caller) (o : Outcome) → slice_get w.calls c ≡ Some (record { caller = who; state = In f }) →
    (learned w c ≡ Some o) ↔ IsAt w f (Ended (Some o))

-- an eviction changes tables of its own node alone
abbrev pub EvictTakesEntries : Type 0
EvictTakesEntries = (w v : World) (i : ℕ) (keys : _) → step w (Evict i keys) ≡ Some v →
    OthersStay i w v × (v.requests ≡ w.requests) × (v.calls ≡ w.calls) × (v.flights ≡ w.flights)
