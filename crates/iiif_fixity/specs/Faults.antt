-- Why a file isn't taken into memory.
use Rattle.std.specs.Prelude.{Bool, IsTrue}
use Rattle.iiif_source.specs.declared.ReadFault.{ReadFault}
use Rattle.iiif_fixity.specs.declared.holding.HoldFault.{HoldFault}
use Rattle.iiif_fixity.specs.declared.holding.HoldFault.TheVariants.{Read, Differs, NoMemory}

-- A fault of a read is one that the device gave.
abbrev pub IsHoldFault : (ReadFault → Bool) → HoldFault → Type 0
IsHoldFault gave (Read fault) = IsTrue (gave fault)
IsHoldFault gave Differs = Unit {0}
IsHoldFault gave NoMemory = Unit {0}

-- the same of reads that compare nothing
abbrev pub IsReadingFault : (ReadFault → Bool) → HoldFault → Type 0
IsReadingFault gave (Read fault) = IsTrue (gave fault)
IsReadingFault gave Differs = ⊥
IsReadingFault gave NoMemory = Unit {0}
