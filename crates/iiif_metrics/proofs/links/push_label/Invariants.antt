use Rattle.std.proofs.Common.{◌≡◌, ◌++◌, take}
use Rattle.iiif_metrics.specs.Links.{label_text}
use Rattle.iiif_metrics.proofs.links.push_label.Given as goal

abbrev pub invariant-loop-byte : goal.invariant-loop-byte
invariant-loop-byte l = l.text.items ≡ l.initial.text.items ++ label_text (take l.byte-index l.value)
