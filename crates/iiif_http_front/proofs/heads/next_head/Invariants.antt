use Rattle.std.proofs.Common.{◌≡◌, ℕ, ◌-◌, List, ◌++◌, length}
use Rattle.std.specs.Io.KnownBytes.{Consumes}
use Rattle.iiif_http_front.proofs.PromptLemmas.{SoFar}
use Rattle.iiif_http_front.proofs.heads.next_head.Given as goal

abbrev pub invariant-heads : goal.invariant-heads
invariant-heads g l = (came : List ℕ) × (l.unread ≡ l.initial.unread ++ came)
    × Consumes (g.I.Read.remaining l.initial.reader) (g.I.Read.remaining l.reader) came
    × SoFar g.I.Inlet.gave l.initial.unread l.unread l.initial.reader l.reader

abbrev pub decreases-heads : goal.decreases-heads
decreases-heads g l = 8192 - length l.unread
