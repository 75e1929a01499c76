use Rattle.std.proofs.Common.{◌≡◌, length}
use Rattle.std.specs.Str.Lines.{lines}
use Rattle.iiif_fixity.proofs.Listing.{Front}
use Rattle.iiif_fixity.proofs.manifest.Manifest.parse_lines.Given as goal

-- the lines that were yielded are taken, and counted
abbrev pub invariant-loop-words : goal.invariant-loop-words
invariant-loop-words l = Front (lines l.text) (length l.yielded) l.manifest × (l.line ≡ length l.yielded)
