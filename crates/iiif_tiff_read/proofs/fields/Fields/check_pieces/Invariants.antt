use Rattle.std.proofs.Common.{◌≡◌, ℕ, ◌+◌, ◌-◌, ◌<◌, ◌≤◌, length, map}
use Rattle.std.specs.Prelude.{slice_index}
use Rattle.iiif_tiff_read.specs.Code.{scheme_of}
use Rattle.std.specs.List.{range_with_len}
use Rattle.iiif_tiff.specs.Tiff.{piece, first}
use Rattle.iiif_tiff.specs.Tiff as tiff
use Rattle.iiif_tiff_read.specs.Code.{AreListed}
use Rattle.iiif_tiff_read.proofs.fields.Fields.check_pieces.Given as goal

abbrev pub invariant-loop-i : goal.invariant-loop-i
invariant-loop-i g l = ((k : ℕ) → k < l.i → slice_index l.offsets k + tiff.piece_bytes (scheme_of l.dim l.fn.format l.grid l.offsets) k ≤
    length (g.S.Source.bytes l.self.source.now))
    × (AreListed (g.S.Source.bytes l.self.source.now) l.dim l.fn.format l.grid l.offsets l.counts →
    first (map (piece (g.S.Source.bytes l.self.source.now)) (range_with_len l.i (l.grid.count - l.i))) ≡ first
    (map (piece (g.S.Source.bytes l.self.source.now)) (range_with_len 0 l.grid.count)))
