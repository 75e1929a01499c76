use Rattle.std.proofs.Common.{◌≡◌, ℕ, ◌-◌, List, ◌++◌, length}
use Rattle.std.specs.Io.KnownBytes.{Consumes}
use Rattle.iiif_http_front.specs.Code.{IsOpen}
use Rattle.iiif_http_front.proofs.heads.fill_line.Given as goal

abbrev pub invariant-reads : goal.invariant-reads
invariant-reads g l = (came : List ℕ) × (l.unread ≡ l.initial.unread ++ came)
    × Consumes (g.I.Read.remaining l.initial.reader) (g.I.Read.remaining l.reader) came × IsOpen l.unread

abbrev pub decreases-reads : goal.decreases-reads
decreases-reads g l = 8192 - length l.unread
