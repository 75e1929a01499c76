use Rattle.std.proofs.Common.{◌≡◌, ◌*◌, ◌≤◌, length, take}
use Rattle.std.specs.Prelude.{All}
use Rattle.std.specs.List.{flat_map}
use Rattle.iiif_keys.specs.Bytes.{short}
use Rattle.iiif_keys.proofs.tile_val_bytes.shorts.Given as goal

abbrev pub invariant-loop-i : goal.invariant-loop-i
invariant-loop-i l = record {
  count : length l.numbers.items ≡ l.i;
  bound : All (λ n. n ≤ 65535) l.numbers.items;
  read : flat_map short l.numbers.items ≡ take (2 * l.i) l.bytes;
}
