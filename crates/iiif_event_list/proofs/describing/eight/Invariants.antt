use Rattle.std.proofs.Common.{take}
use Rattle.iiif_event_list.specs.Settings.{AreNumbers}
use Rattle.iiif_event_list.proofs.describing.eight.Given as goal

abbrev pub invariant-loop-word : goal.invariant-loop-word
invariant-loop-word l = AreNumbers (take l.word-index l.words) l.samples.items
