-- The counts after a flight has landed.
--   counted_as   by whether it was found, whether it is a fault, and its place
use Rattle.std.specs.Prelude.{◌+◌, Bool, true, false}
use Rattle.iiif_tables.specs.declared.table.Book.{Book}
use Rattle.iiif_tables.specs.declared.table.Place.{Place}
use Rattle.iiif_tables.specs.declared.table.Place.TheVariants.{Nowhere, Main, Peer}

-- found by looking again, or with a fault, or with a value for a place
abbrev pub counted_as : Bool → Bool → Place → Book → Book
counted_as true fault place b = record b { landed = b.landed + 1; again_hits = b.again_hits + 1 }
counted_as false true place b = record b { landed = b.landed + 1; loads = b.loads + 1; faults = b.faults + 1 }
counted_as false false Nowhere b = record b { landed = b.landed + 1; loads = b.loads + 1 }
counted_as false false Main b = record b { landed = b.landed + 1; loads = b.loads + 1 }
counted_as false false Peer b = record b { landed = b.landed + 1; loads = b.loads + 1; peer = b.peer + 1 }
