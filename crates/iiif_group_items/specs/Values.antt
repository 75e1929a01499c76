-- Answers of the groups of a node for keys.
use Rattle.std.specs.Prelude.{ℕ, Bool, List, IsTrue}
use Rattle.iiif_pixel.specs.Geometry.{channels_of}
use Rattle.iiif_source.specs.declared.ReadFault.{ReadFault}
use Rattle.iiif_keys.specs.Blocks.{NamesPart, SumFitsIn, TileFitsIn}
use Rattle.iiif_keys.specs.Meaning.{sum_is_shaped, sum_meaning, tile_is_shaped, tile_meaning}
use Rattle.iiif_keys.specs.Names.{Pictures}
use Rattle.iiif_keys.specs.declared.fault.Fault.{Fault}
use Rattle.iiif_keys.specs.declared.keys.TileKey.{TileKey}
use Rattle.iiif_keys.specs.declared.keys.SumKey.{SumKey}
use Rattle.iiif_keys.specs.declared.values.TileVal.{TileVal}
use Rattle.iiif_keys.specs.declared.values.SumVal.{SumVal}
use Rattle.iiif_outcome.specs.Outcomes.{is_given}
use Rattle.iiif_sum_group.specs.Values.{MayStandFor}

-- the key of a tile, and of sums, that names something where names have these pictures and tiles have this edge
abbrev pub TileIsNamed : Pictures → ℕ → TileKey → Type 0
TileIsNamed shows edge k = NamesPart shows edge k.name k.edge (λ s. TileFitsIn s.dim (channels_of s.kind) k)

abbrev pub SumIsNamed : Pictures → ℕ → SumKey → Type 0
SumIsNamed shows edge k = NamesPart shows edge k.name k.edge (λ s. SumFitsIn s.dim (channels_of s.kind) k)

-- values that may be answered for keys: of a tile, and of sums
abbrev pub TileMayBe : Pictures → (List ℕ → Type 0) → Bool → TileKey → TileVal → Type 0
TileMayBe shows stable honest k v = MayStandFor (stable k.name) honest (tile_meaning shows k) (tile_is_shaped shows k) v

abbrev pub SumMayBe : Pictures → (List ℕ → Type 0) → Bool → SumKey → SumVal → Type 0
SumMayBe shows stable honest k v = MayStandFor (stable k.name) honest (sum_meaning shows k) (sum_is_shaped shows k) v

-- why there may be no value of a key: of a tile, and of sums
abbrev pub TileGave : (List ℕ → ReadFault → Bool) → TileKey → Fault → Type 0
TileGave gave k f = IsTrue (is_given (gave k.name) f)

abbrev pub SumGave : (List ℕ → ReadFault → Bool) → SumKey → Fault → Type 0
SumGave gave k f = IsTrue (is_given (gave k.name) f)
