use Rattle.std.proofs.Common.{◌≡◌, ◌+◌, ◌*◌, ℕ, List, map, take, drop}
use Rattle.std.specs.List.{range_with_len}
use Rattle.iiif_tiff.specs.Tiff as tiff
use Rattle.iiif_tiff_read.specs.Code.{endian, entry_views}
use Rattle.iiif_tiff_read.proofs.entry.decode_entries.Given as goal

abbrev pub invariant-loop-i : goal.invariant-loop-i
invariant-loop-i l = (file : List ℕ) (start : ℕ) → endian l.order ≡ tiff.order file → l.bytes ≡ take (12 * l.count) (drop start file)
    → entry_views l.entries.items ≡ map (λ k. tiff.entry file (start + 12 * k)) (range_with_len 0 l.i)
