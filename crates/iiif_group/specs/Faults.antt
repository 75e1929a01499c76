-- Numbers of the faults of links.
use Rattle.std.specs.Prelude.{ℕ}
use Rattle.iiif_group.specs.declared.link.LinkFault.{LinkFault}
use Rattle.iiif_group.specs.declared.link.LinkFault.TheVariants.{Wire, Refused, Value}

-- The number of each fault.
abbrev pub link_fault_number : LinkFault → ℕ
link_fault_number (Wire fault) = 1
link_fault_number (Refused status) = 2
link_fault_number Value = 3
