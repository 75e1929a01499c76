-- Calls that are to enter, and flights that take replies.
use Rattle.std.specs.Prelude.{◌≡◌, ℕ, Bool, true, false, Option, Some, None, slice_get}
use Rattle.iiif_tables.specs.Cache.{Kept, kept_for}
use Rattle.iiif_machine.specs.Keys.{key_eq}
use Rattle.iiif_machine.specs.declared.keys.Value.{Value}
use Rattle.iiif_machine.specs.Rows.{Node}
use Rattle.iiif_machine.specs.declared.rows.Caller.{Caller}
use Rattle.iiif_machine.specs.declared.rows.CallState.{CallState}
use Rattle.iiif_machine.specs.declared.rows.Lead.{Lead}
use Rattle.iiif_machine.specs.declared.rows.Stage.{Stage}
use Rattle.iiif_machine.specs.declared.rows.CallState.TheVariants.{Fresh}
use Rattle.iiif_machine.specs.declared.rows.Stage.TheVariants.{New, Looked, Asking, Fallback, Parts, Ready, Ended}
use Rattle.iiif_machine.specs.Worlds.{World, table_at}

-- the call is fresh, and this is kept for its key at its node
pub record IsFresh (w : World) (c : ℕ) (kept : Option (Kept Value)) : Type 0 where
  pub who : Caller
  pub node : Node
  pub call : slice_get w.calls c ≡ Some (record { caller = who; state = Fresh })
  pub there : slice_get w.nodes who.node ≡ Some node
  pub is_kept : kept_for key_eq who.key (table_at node who.key).cache ≡ kept

-- a call is of this caller, whose node is this one
pub record HasCall (w : World) (c : ℕ) (who : Caller) (n : Node) : Type 0 where
  pub state : CallState
  pub call : slice_get w.calls c ≡ Some (record { caller = who; state = state })
  pub there : slice_get w.nodes who.node ≡ Some n

-- whether a flight at a stage takes what a reply brings, or nothing; none, where no reply may come
abbrev pub takes : Stage → Option Bool
takes Asking = Some true
takes (Ended o) = Some false
takes New = None
takes Looked = None
takes (Fallback c) = None
takes (Parts cs) = None
takes (Ready o p) = None

-- a flight has this lead, whose node is this one
pub record HasFlight (w : World) (f : ℕ) (l : Lead) (n : Node) : Type 0 where
  pub stage : Stage
  pub flight : slice_get w.flights f ≡ Some (record { lead = l; stage = stage })
  pub there : slice_get w.nodes l.node ≡ Some n
