-- Classes of flights, counted.
--   one_if_wide   a wide flight as one
use Rattle.std.specs.Prelude.{ℕ}
use Rattle.iiif_tables.specs.declared.table.Class.{Class}
use Rattle.iiif_tables.specs.declared.table.Class.TheVariants.{Wide, Local}

-- one for the wide class, none for the local one
abbrev pub one_if_wide : Class → ℕ
one_if_wide Wide = 1
one_if_wide Local = 0
