-- The contracts of a table's calls.
--   Counts       a pass counts a call
--   Enters       a call enters: it hits, joins or leads
--   LooksAgain   a leader looks again, and its lead is checked or comes back
--   HasPlace     a place for the value of a checked lead
--   Lands        a flight lands, and its value is kept by its place
use Rattle.std.specs.Prelude.{◌≡◌, ◌≢◌, ◌+◌, None, Some, Result, IfOk, IfSome, IsSome, IsTrue, MatchOption, OnErr, OnOk, option_map}
use Rattle.std.specs.Prelude.{if◌then◌else◌}
use Rattle.std.specs.Arc.{arc_value}
use Rattle.std.specs.declared.alloc.Global.{Global}
use Rattle.std.specs.declared.cmp.PartialEq as partial_eq
use Rattle.std.specs.declared.sync.Arc.{Arc}
use Rattle.iiif_keys.specs.declared.cache_key.CacheKey as cache_key
use Rattle.iiif_keys.specs.declared.fault.Fault.{Fault}
use Rattle.iiif_keys.specs.declared.system.System as system
use Rattle.iiif_tables.specs.Cache.{kept_for}
use Rattle.iiif_tables.specs.Flights.{again, enter, has_ticket, land}
use Rattle.iiif_tables.specs.declared.table.Class.{Class}
use Rattle.iiif_tables.specs.declared.table.Class.TheVariants.{Wide, Local}
use Rattle.iiif_tables.specs.declared.table.Place.{Place}
use Rattle.iiif_tables.specs.declared.table.Place.TheVariants.{Main}
use Rattle.iiif_outcome.specs.Outcomes.{value_of}
use Rattle.iiif_outcome.specs.Views.{entry_size, lead_cell, lead_class, lead_key, lead_ticket}
use Rattle.iiif_outcome.specs.declared.lead.Lead.{Lead}
use Rattle.iiif_singleflight.specs.Completions.{completion_cell, completion_kept, completion_known, completion_own, completion_refused}
use Rattle.iiif_singleflight.specs.Completions.{completion_taken, completion_ticket, told_ticket}
use Rattle.iiif_singleflight.specs.Entering.{led_wide, CellsMeet, HitMeans, HitOf, HitPasses, Meets}
use Rattle.iiif_singleflight.specs.Handles.{checked_lead}
use Rattle.iiif_singleflight.specs.Held.{open_at}
use Rattle.iiif_singleflight.specs.Seen.{the_flight, with_at}
use Rattle.iiif_singleflight.specs.View.{cells_of, table_of, wide_leads}
use Rattle.iiif_singleflight.specs.declared.checked.Again.{Again}
use Rattle.iiif_singleflight.specs.declared.checked.Again.TheVariants.{Nothing, Found, Refused}
use Rattle.iiif_singleflight.specs.declared.completion.Completion.{Completion}
use Rattle.iiif_singleflight.specs.declared.entered.Entered.{Entered}
use Rattle.iiif_singleflight.specs.declared.pass.Pass.{Pass}
use Rattle.iiif_singleflight.specs.declared.table.Table.{Table}

-- the place for the value of a checked lead: main for a load of this node's own, and never for a value that another node gave
abbrev pub HasPlace : Class → Place → Type 0
HasPlace Local place = place ≡ Main
HasPlace Wide place = place ≢ Main

module _ {K J L V : Type 0} {a : cache_key.Ghosts K V} {b : partial_eq.Ghosts K} {c : _} {d : system.Ghosts J} where
  -- a pass counts a call of a class; `view` is the answer as a table gives it
  pub record Counts {X E : Type 0} (view : X → Entered K J L V a b c d) (class : Class) (before after : Pass L) (result : Result X E)
      : Type 0 where
    -- it counts one call more
    pub counted : OnOk result (after.gets ≡ before.gets + 1)
    -- and one wide flight more where the call leads one
    pub led : IfOk result (λ e. wide_leads after ≡ wide_leads before + led_wide class (view e))
    -- a call that is refused isn't counted
    pub refused : OnErr result ((after.gets ≡ before.gets) × (wide_leads after ≡ wide_leads before))
    -- the pass keeps its parts
    pub parts : after.parts ≡ before.parts

  -- a call for a key enters a table in a class, counted by its pass; `view` is the answer as a table gives it
  pub record Enters {X E : Type 0} (view : X → Entered K J L V a b c d) (class : Class) (key : K) (old new : Table K J L V a b c d)
      (before after : Pass L) (result : Result X E) : Type 0 where
    -- the cache, the flights and the counts change as `enter` says
    pub table : OnOk result (table_of b.eq new ≡ (enter b.eq class key (table_of b.eq old)).1)
    -- the call hits, joins the open flight or leads a new one, as `enter` says
    pub met : IfOk result (λ e. Meets class key (enter b.eq class key (table_of b.eq old)).0 (view e))
    -- a hit's outcome is of a flight for this key
    pub known : IfOk result (λ e. HitOf key (view e))
    -- where the image's bytes are stable and the other nodes honest, a hit's value is the key's meaning
    pub meant : IfOk result (λ e. HitMeans (d.stable (a.name_of key) × IsTrue d.honest) (a.meaning d.pictures key) (view e))
    -- a hit's value has the shape of the key's meaning
    pub shaped : IfOk result (λ e. HitPasses (a.is_shaped d.pictures key) (view e))
    -- a call that joins has the cell of the open flight; a new flight brings a cell, and all others keep theirs
    pub cells : IfOk result (λ e. CellsMeet b.eq class key (cells_of b.eq old) (cells_of b.eq new) (view e))
    -- the pass counts the call
    pub pass : Counts view class before after result
    -- an error leaves the table as it was
    pub err : OnErr result ((table_of b.eq new ≡ table_of b.eq old) × (cells_of b.eq new ≡ cells_of b.eq old))

  -- a leader looks again: its lead is checked where `again` finds nothing, and comes back where a value is kept
  abbrev pub LooksAgain : Lead K J L V a b c d → Table K J L V a b c d → Table K J L V a b c d → Again K J L V a b c d → Type 0
  LooksAgain lead old new (Nothing l) = (checked_lead l ≡ lead) × (table_of b.eq new ≡ table_of b.eq old) ×
      (cells_of b.eq new ≡ cells_of b.eq old) ×
      ((again b.eq (lead_class lead) (lead_key lead) (lead_ticket lead) (table_of b.eq old)).0 ≡ None)
  LooksAgain lead old new (Found l v) = (l ≡ lead) ×
      (table_of b.eq new ≡ (again b.eq (lead_class lead) (lead_key lead) (lead_ticket lead) (table_of b.eq old)).1) ×
      (cells_of b.eq new ≡ cells_of b.eq old) ×
      (Some (arc_value v) ≡ (again b.eq (lead_class lead) (lead_key lead) (lead_ticket lead) (table_of b.eq old)).0)
  LooksAgain lead old new (Refused l) = (l ≡ lead) × (table_of b.eq new ≡ table_of b.eq old) ×
      (cells_of b.eq new ≡ cells_of b.eq old) × IsSome (kept_for b.eq (lead_key lead) (table_of b.eq old).cache)

  -- a flight lands in a table with an outcome, and its value is kept by its place
  pub record Lands (lead : Lead K J L V a b c d) (outcome : Result (Arc V Global) Fault) (place : Place)
      (old new : Table K J L V a b c d) (completion : Completion K J L V a b c d) : Type 0 where
    -- the cache, the flights and the counts change as `land` says
    pub table : table_of b.eq new ≡ land b.eq (entry_size a.key_bytes a.val_bytes) (completion_kept completion) (lead_class lead)
        (lead_key lead) (lead_ticket lead) (value_of outcome) place (table_of b.eq old)
    -- the ticket by which followers are woken is the flight's
    pub ticket : completion_ticket completion ≡ lead_ticket lead
    -- where the cell took the outcome, the receipt is of this flight, and has that outcome under the flight's key
    pub taken : IsTrue (completion_taken completion) → (told_ticket completion ≡ lead_ticket lead) ×
        IfSome (completion_known completion) (λ x. (x.outcome ≡ outcome) × (arc_value x.key ≡ lead_key lead))
    -- an outcome that the cell took is the flight's own
    pub taken_is_own : IsTrue (completion_taken completion) → IsTrue (completion_own completion)
    -- where an own outcome stands in the cell, the receipt is of this flight, and what it has is of the flight's key
    pub own : IsTrue (completion_own completion) → (told_ticket completion ≡ lead_ticket lead) ×
        IfSome (completion_known completion) (λ x. arc_value x.key ≡ lead_key lead)
    -- a value is kept only where the cell took the outcome
    pub kept : IsTrue (completion_kept completion) → IsTrue (completion_taken completion)
    -- an outcome that the cell refused comes back, with the flight's key and ticket
    pub refused : MatchOption (completion_refused completion) (IsTrue (completion_taken completion))
        (λ b. (b.value.outcome ≡ outcome) × (arc_value b.value.key ≡ lead_key lead) × (b.value.ticket ≡ lead_ticket lead))
    -- the receipt is of the flight's cell
    pub cell : completion_cell completion ≡ lead_cell lead
    -- the flight closes, if it was open, and all others keep their cells
    pub cells : cells_of b.eq new ≡
        (if has_ticket (lead_ticket lead) (option_map the_flight (open_at b.eq old.opens (lead_class lead) (lead_key lead))) then
        with_at b.eq (lead_class lead) (lead_key lead) None (cells_of b.eq old) else cells_of b.eq old)
