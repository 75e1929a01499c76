-- Nodes; and the rows of requests, calls, flights, asks and replies.
use Rattle.std.specs.Prelude.{ℕ, List}
use Rattle.iiif_machine.specs.Tables.{Table}
pub use Rattle.iiif_machine.specs.declared.rows.Given.{Given}
pub use Rattle.iiif_machine.specs.declared.rows.Purpose.{Purpose}
pub use Rattle.iiif_machine.specs.declared.rows.Purpose.TheVariants.{ForRequest, ForPart, ForFallback, ForAsk}
pub use Rattle.iiif_machine.specs.declared.rows.Caller.{Caller}
pub use Rattle.iiif_machine.specs.declared.rows.CallState.{CallState}
pub use Rattle.iiif_machine.specs.declared.rows.CallState.TheVariants.{Fresh, Hit, In, Gone}
pub use Rattle.iiif_machine.specs.declared.rows.Call.{Call}
pub use Rattle.iiif_machine.specs.declared.rows.Lead.{Lead}
pub use Rattle.iiif_machine.specs.declared.rows.Stage.{Stage}
pub use Rattle.iiif_machine.specs.declared.rows.Stage.TheVariants.{New, Looked, Asking, Fallback, Parts, Ready, Ended}
pub use Rattle.iiif_machine.specs.declared.rows.Flight.{Flight}
pub use Rattle.iiif_machine.specs.declared.rows.Ask.{Ask}
pub use Rattle.iiif_machine.specs.declared.rows.Reply.{Reply}
pub use Rattle.iiif_machine.specs.declared.rows.RequestInfo.{RequestInfo}
pub use Rattle.iiif_machine.specs.declared.rows.Answer.{Answer}
pub use Rattle.iiif_machine.specs.declared.rows.Answer.TheVariants.{Refused, Image, Failed}
pub use Rattle.iiif_machine.specs.declared.rows.Progress.{Progress}
pub use Rattle.iiif_machine.specs.declared.rows.Progress.TheVariants.{Waiting, Answered, Dropped}
pub use Rattle.iiif_machine.specs.declared.rows.RequestRow.{RequestRow}

-- a node: its name, the names on its ring, the last version of messages that it speaks, and a table for tiles and one for sums
pub record Node : Type 0 where
  pub name : List ℕ
  pub ring : List (List ℕ)
  pub version : ℕ
  pub tiles : Table
  pub sums : Table
