use Rattle.std.proofs.Common.{◌≡◌, ◌-◌, ◌≤◌, length, reverse, slice_range}
use Rattle.httparse.specs.Grammar.{skip_ows, trim_ows}
use Rattle.iiif_http_front.proofs.fields.trimmed.Given as goal

abbrev pub invariant-loop-start : goal.invariant-loop-start
invariant-loop-start l =
    (l.start ≤ l.end) × (l.end ≡ length l.bytes)
    × (skip_ows l.bytes ≡ skip_ows (slice_range l.bytes l.start l.end))

abbrev pub decreases-loop-start : goal.decreases-loop-start
decreases-loop-start l = l.end - l.start

abbrev pub invariant-loop-end : goal.invariant-loop-end
invariant-loop-end l =
    (l.start ≤ l.end) × (l.end ≤ length l.bytes)
    × (trim_ows l.bytes ≡ reverse (skip_ows (reverse (slice_range l.bytes l.start l.end))))

abbrev pub decreases-loop-end : goal.decreases-loop-end
decreases-loop-end l = l.end - l.start
