-- The parts of a sum's key.
use Rattle.std.proofs.Common.{◌≡◌, ◌<◌, [], ◌∷◌, map, Some, ap, arith}
use Rattle.std.specs.Prelude.{Bool, if◌then◌else◌}
use Rattle.std.proofs.Common.{eq-eqb}
use Rattle.std.proofs.lemmas.Bool.{ne_eqb}
use Rattle.iiif_keys.specs.Meaning.{sums_below, tile_below}
use Rattle.iiif_keys.specs.declared.keys.SumKey.{SumKey}
use Rattle.iiif_machine.specs.Keys.{parts_of}
use Rattle.iiif_machine.specs.declared.keys.Key.TheVariants as key

pub parts_tile : (k : SumKey) → k.level ≡ 0 → parts_of (key.Sum k) ≡ Some (key.Tile (tile_below k) ∷ [])
unfolding parts_of
parts_tile k none = ap (λ (b : Bool). Some (if b then key.Tile (tile_below k) ∷ [] else map key.Sum (sums_below k))) (eq-eqb k.level 0 none)

pub parts_sums : (k : SumKey) → 0 < k.level → parts_of (key.Sum k) ≡ Some (map key.Sum (sums_below k))
unfolding parts_of
parts_sums k some = ap (λ (b : Bool). Some (if b then key.Tile (tile_below k) ∷ [] else map key.Sum (sums_below k)))
    (ne_eqb k.level 0 (λ e. omega (arith, e, some)))
