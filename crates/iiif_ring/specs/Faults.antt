-- Why names make no ring.
use Rattle.std.specs.Prelude.{ℕ}
use Rattle.iiif_ring.specs.declared.fault.RingFault.{RingFault}
use Rattle.iiif_ring.specs.declared.fault.RingFault.TheVariants.{Empty, Twice, TooMany, NoMemory}

-- the number of each fault
abbrev pub number_of : RingFault → ℕ
number_of Empty = 1
number_of Twice = 2
number_of TooMany = 3
number_of NoMemory = 4
