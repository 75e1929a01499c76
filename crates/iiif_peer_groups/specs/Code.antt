-- Words that only this crate's own functions need.
use Rattle.std.specs.Prelude.{Option, IsSome}
use Rattle.iiif_keys.specs.declared.fault.Fault.{Fault}
use Rattle.iiif_keys.specs.declared.fault.Fault.TheVariants.{Source, NoMemory, UnknownName, BadKey}
use Rattle.iiif_keys.specs.declared.fault.KeyFault.{KeyFault}

-- bytes were not read as a key: they are none's, for that reason, or memory ran out
abbrev pub IsUnread : Option KeyFault → Fault → Type 0
IsUnread why BadKey = IsSome why
IsUnread why NoMemory = Unit {0}
IsUnread why (Source f) = ⊥
IsUnread why UnknownName = ⊥
