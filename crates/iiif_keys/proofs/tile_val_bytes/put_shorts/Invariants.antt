use Rattle.std.proofs.Common.{◌≡◌, ◌++◌, take}
use Rattle.std.specs.List.{flat_map}
use Rattle.iiif_keys.specs.Bytes.{short}
use Rattle.iiif_keys.proofs.tile_val_bytes.put_shorts.Given as goal

abbrev pub invariant-loop-number : goal.invariant-loop-number
invariant-loop-number l = l.out.items ≡ l.fn.out.items ++ flat_map short (take l.number-index l.numbers)
