-- What calls know, but for the values.
use Rattle.std.specs.Prelude.{List, Bool, Option, Some, None, Result, Ok, Err, if◌then◌else◌}
use Rattle.iiif_machine.specs.Types.{Value, ReadFault}
use Rattle.iiif_machine.specs.Tables.{Outcome}
use Rattle.iiif_machine.specs.Worlds.{collected}
use Rattle.iiif_machine.specs.declared.hearing.Heard.TheVariants as code
pub use Rattle.iiif_machine.specs.declared.hearing.Heard.{Heard}

abbrev pub heard : Option Outcome → Heard
heard None = code.Nothing
heard (Some (Ok v)) = code.Value
heard (Some (Err f)) = code.Fault f

-- of the values that were collected, or the first fault
abbrev pub heard_from : Result (List Value) ReadFault → Heard
heard_from (Ok vs) = code.Value
heard_from (Err f) = code.Fault f

abbrev pub heard_all : Option (List Outcome) → Heard
heard_all None = code.Nothing
heard_all (Some os) = heard_from (collected os)

-- What was heard first, and then of the rest: nothing where one knows nothing, else the first fault. Where faults are early, one counts
-- whatever the rest knows.
abbrev pub heard_first : Bool → Heard → Heard → Heard
heard_first early code.Value rest = rest
heard_first early code.Nothing rest = code.Nothing
heard_first early (code.Fault f) code.Nothing = if early then code.Fault f else code.Nothing
heard_first early (code.Fault f) code.Value = code.Fault f
heard_first early (code.Fault f) (code.Fault g) = code.Fault f
