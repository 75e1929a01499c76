-- Completions of flights as their holders see them.
--   completion_ticket   the number of the flight that landed
--   completion_known    what stands in its cell
--   told_ticket         the number of the flight of which that is
--   completion_cell     the name of the cell
--   completion_taken    the cell took the outcome that was landed
--   completion_own      what stands in the cell is of the flight that landed
--   completion_refused  the outcome that the cell refused
--   completion_kept     the value was put into the cache
use Rattle.std.specs.Prelude.{ℕ, Bool, Option, is_some}
use Rattle.std.specs.Global.{Box}
use Rattle.iiif_outcome.specs.Views.{receipt_cell, receipt_known, receipt_ticket}
use Rattle.iiif_outcome.specs.declared.landed.Landed.{Landed}
use Rattle.iiif_singleflight.specs.declared.completion.Completion.{Completion}

module _ {K J L V : Type 0} {a b c d : _} where
  abbrev pub completion_ticket : Completion K J L V a b c d → ℕ
  completion_ticket l = l.ticket

  abbrev pub completion_known : Completion K J L V a b c d → Option (Landed K J V a b c d)
  completion_known l = receipt_known l.receipt

  abbrev pub told_ticket : Completion K J L V a b c d → ℕ
  told_ticket l = receipt_ticket l.receipt

  abbrev pub completion_cell : Completion K J L V a b c d → ℕ
  completion_cell l = receipt_cell l.receipt

  abbrev pub completion_taken : Completion K J L V a b c d → Bool
  completion_taken l = l.taken

  abbrev pub completion_own : Completion K J L V a b c d → Bool
  completion_own l = l.own

  abbrev pub completion_refused : Completion K J L V a b c d → Option (Box (Landed K J V a b c d))
  completion_refused l = l.refused

  abbrev pub completion_kept : Completion K J L V a b c d → Bool
  completion_kept l = is_some l.evicted
