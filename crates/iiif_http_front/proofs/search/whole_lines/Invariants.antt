use Rattle.std.proofs.Common.{◌≡◌, ◌+◌, ◌≤◌, drop}
use Rattle.iiif_http_front.specs.Reading.{whole_lines}
use Rattle.iiif_http_front.proofs.LineLemmas.{lines_left}
use Rattle.iiif_http_front.proofs.search.whole_lines.Given as goal

abbrev pub invariant-loop-byte : goal.invariant-loop-byte
invariant-loop-byte l =
    (whole_lines l.bytes ≡ l.lines + lines_left l.begun (drop l.byte-index l.bytes)) × (l.lines ≤ l.byte-index)
