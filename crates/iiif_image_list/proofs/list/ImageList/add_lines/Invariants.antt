use Rattle.std.proofs.Common.{◌≡◌, length}
use Rattle.std.specs.Str.Lines.{lines}
use Rattle.iiif_image_list.proofs.ListLemmas.{Front}
use Rattle.iiif_image_list.proofs.list.ImageList.add_lines.Given as goal

-- the lines that were yielded are taken, and counted
abbrev pub invariant-loop-words : goal.invariant-loop-words
invariant-loop-words l = Front l.fn.self (lines l.text) (length l.yielded) l.self × (l.line ≡ length l.yielded)
