use Rattle.std.proofs.Common.{map, take}
use Rattle.std.specs.Io.KnownBytes.{Appends}
use Rattle.iiif_start.specs.DotSegments.{warnings}
use Rattle.iiif_start.proofs.dot_segments.warn.Given as goal

-- the lines of the base URL and of the images so far
abbrev pub invariant-loop-name : goal.invariant-loop-name
invariant-loop-name g l = Appends (g.W.Write.contents l.fn.err) (g.W.Write.contents l.err)
    (warnings l.base (map (λ i. i.0.now) (take l.name-index l.images)))
