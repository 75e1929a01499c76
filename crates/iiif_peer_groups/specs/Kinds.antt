-- The two kinds of keys, tiles and sums, as replies speak of them; and the node that replies.
use Rattle.std.specs.Prelude.{ℕ, Bool, List, Option}
use Rattle.iiif_pixel.specs.Geometry.{channels_of}
use Rattle.iiif_source.specs.declared.ReadFault.{ReadFault}
use Rattle.iiif_keys.specs.Blocks.{SumFitsIn, TileFitsIn}
use Rattle.iiif_keys.specs.Bytes.{IsSumKey, IsTileKey, sum_key_bytes, sum_val_bytes, tile_key_bytes, tile_val_bytes}
use Rattle.iiif_keys.specs.Meaning.{sum_is_shaped, sum_meaning, tile_is_shaped, tile_meaning}
use Rattle.iiif_keys.specs.Names.{Pictures}
use Rattle.iiif_keys.specs.Reading.{sum_key_refusal, tile_key_refusal}
use Rattle.iiif_keys.specs.declared.fault.KeyFault.{KeyFault}
use Rattle.iiif_keys.specs.declared.keys.Shape.{Shape}
use Rattle.iiif_keys.specs.declared.keys.SumKey.{SumKey}
use Rattle.iiif_keys.specs.declared.keys.TileKey.{TileKey}
use Rattle.iiif_keys.specs.declared.values.SumVal.{SumVal}
use Rattle.iiif_keys.specs.declared.values.TileVal.{TileVal}

-- Keys of a kind: those that are read from bytes, how they and their values are spelled, why other bytes are refused, the name of the
-- image and the side of a tile, where they fit, and what they mean.
pub record Kind (K V : Type 0) : Type 1 where
  pub is_key : K → Type 0
  pub key_bytes : K → List ℕ
  pub refusal : List ℕ → Option KeyFault
  pub name_of : K → List ℕ
  pub edge_of : K → ℕ
  pub fits_in : Shape → K → Type 0
  pub val_bytes : V → List ℕ
  pub is_shaped : Pictures → K → V → Bool
  pub meaning : Pictures → K → V

abbrev pub kind_of : {K V : Type 0} → (K → Type 0) → (K → List ℕ) → (List ℕ → Option KeyFault) → (K → List ℕ) → (K → ℕ) →
    (Shape → K → Type 0)
    → (V → List ℕ) → (Pictures → K → V → Bool) → (Pictures → K → V) → Kind K V
kind_of is_key key_bytes refusal name_of edge_of fits_in val_bytes is_shaped meaning = record {
  is_key = is_key;
  key_bytes = key_bytes;
  refusal = refusal;
  name_of = name_of;
  edge_of = edge_of;
  fits_in = fits_in;
  val_bytes = val_bytes;
  is_shaped = is_shaped;
  meaning = meaning;
}

-- tiles
abbrev pub tile_kind : Kind TileKey TileVal
tile_kind = kind_of IsTileKey tile_key_bytes tile_key_refusal (λ k. k.name) (λ k. k.edge)
    (λ s k. TileFitsIn s.dim (channels_of s.kind) k) tile_val_bytes tile_is_shaped tile_meaning

-- sums
abbrev pub sum_kind : Kind SumKey SumVal
sum_kind = kind_of IsSumKey sum_key_bytes sum_key_refusal (λ k. k.name) (λ k. k.edge) (λ s k. SumFitsIn s.dim (channels_of s.kind) k)
    sum_val_bytes sum_is_shaped sum_meaning

-- A node: the picture of each name, the side of a tile, the faults that the source of each name gave, which names' sources keep their
-- bytes, and whether other nodes are honest.
pub record System : Type 1 where
  pub pictures : Pictures
  pub edge : ℕ
  pub gave : List ℕ → ReadFault → Bool
  pub stable : List ℕ → Type 0
  pub honest : Bool

abbrev pub system : Pictures → ℕ → (List ℕ → ReadFault → Bool) → (List ℕ → Type 0) → Bool → System
system pictures edge gave stable honest = record { pictures = pictures; edge = edge; gave = gave; stable = stable; honest = honest }
