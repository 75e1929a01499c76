-- Why a world can't begin.
use Rattle.std.specs.Prelude.{ℕ}
use Rattle.iiif_world.specs.declared.starting.SetupFault.{SetupFault}
use Rattle.iiif_world.specs.declared.starting.SetupFault.TheVariants.{Edge, Room, Picture, Ring, Name, NoMemory}

-- the number of each fault
abbrev pub number_of : SetupFault → ℕ
number_of Edge = 1
number_of Room = 2
number_of Picture = 3
number_of Ring = 4
number_of Name = 6
number_of NoMemory = 5
