use Rattle.std.proofs.Common.{◌≡◌, ◌*◌, ◌≤◌, ◌^◌, take}
use Rattle.iiif_tables.specs.Cache.{bytes_of}
use Rattle.iiif_machine.specs.Keys.{entry_size}
use Rattle.iiif_machine.specs.Entries.{rows}
use Rattle.iiif_machine.proofs.listing.bytes.Given as goal

abbrev pub invariant-loop-entry : goal.invariant-loop-entry
invariant-loop-entry l = (l.sum ≡ bytes_of entry_size (rows (take l.entry-index l.list))) × (l.sum ≤ l.entry-index * 2 ^ 64)
