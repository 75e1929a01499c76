use Rattle.std.proofs.Common.{◌≡◌, fold, map, take}
use Rattle.iiif_area.specs.Grid.{merged}
use Rattle.iiif_keys.specs.Meaning.{sums_in}
use Rattle.iiif_keys.proofs.values.add_sums.Given as goal

-- the values so far
abbrev pub invariant-loop-value : goal.invariant-loop-value
invariant-loop-value l =
    record {
      sums : l.total ≡ fold merged l.fn.total (map sums_in (take l.value-index l.values));
      rect : l.total.rect ≡ l.fn.total.rect;
      channels : l.total.channels ≡ l.fn.total.channels;
    }
