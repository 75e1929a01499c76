-- Faults of a put.
--   put_fault_number   the number of each
use Rattle.std.specs.Prelude.{ℕ}
use Rattle.iiif_byte_cache.specs.declared.cache.PutFault.{PutFault}
use Rattle.iiif_byte_cache.specs.declared.cache.PutFault.TheVariants.{TooBig, NoMemory}

-- the number of each fault
abbrev pub put_fault_number : {K E : Type 0} → PutFault K E → ℕ
put_fault_number (TooBig key entry) = 1
put_fault_number (NoMemory key entry) = 2
