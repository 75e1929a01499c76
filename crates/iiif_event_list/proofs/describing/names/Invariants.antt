use Rattle.std.proofs.Common.{take}
use Rattle.iiif_ring.specs.Names.{names_of}
use Rattle.iiif_event_list.specs.Settings.{AreNames}
use Rattle.iiif_event_list.proofs.describing.names.Given as goal

abbrev pub invariant-loop-word : goal.invariant-loop-word
invariant-loop-word l = AreNames (take l.word-index l.words) (names_of l.names.items)
