use Rattle.std.proofs.Common.{◌+◌, ◌*◌, take, drop}
use Rattle.iiif_tiff.specs.Tiff.{stored}
use Rattle.iiif_tiff_read.specs.Code.{HoldsRows, KeepsRest}
use Rattle.iiif_tiff_read.proofs.rows.put_rows.Given as goal

abbrev pub invariant-loop-j : goal.invariant-loop-j
invariant-loop-j l = HoldsRows (λ j i. stored l.bits (take l.span.len (drop (j * l.span.len) l.bytes)) 0 (l.span.skip + i)) l.window l.j
    l.samples × KeepsRest l.window l.j l.initial.samples l.samples
