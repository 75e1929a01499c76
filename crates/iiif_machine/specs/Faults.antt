-- Why an event did nothing.
use Rattle.std.specs.Prelude.{ℕ}
use Rattle.iiif_machine.specs.declared.events.WorldFault.{WorldFault}
use Rattle.iiif_machine.specs.declared.events.WorldFault.TheVariants.{NotNow, NoMemory}

-- the number of each fault
abbrev pub number_of : WorldFault → ℕ
number_of NotNow = 1
number_of NoMemory = 2
