-- What a node was told, and its images.
use Rattle.std.specs.Prelude.{◌≡◌, ℕ, List, Some}
use Rattle.iiif_source.specs.declared.ReadFault.{ReadFault}
use Rattle.iiif_source.specs.declared.Source as source
use Rattle.iiif_keys.specs.declared.system.System as system
use Rattle.iiif_tile_group.specs.Collection.{Item, item_named}
use Rattle.iiif_tile_group.specs.Named.{gave_of, pictures_of}
use Rattle.iiif_answers.specs.Settings.{Settings}

pub record Service (S : Type 0) : Type 0 where
  pub settings : Settings
  pub items : List (Item S)

-- Tiles have the edge that the node was told, and the sources that keep their bytes are those that count as stable.
pub record IsTied {S : Type 0} (keeps : S → Type 0) (stable : List ℕ → Type 0) (edge : ℕ) (settings : Settings) (items : List (Item S)) :
    Type 0 where
  pub has_edge : settings.edge ≡ edge
  pub kept : (name : List ℕ) (item : Item S) → item_named items name ≡ Some item → keeps item.source → stable name

-- The names of these images, cut into tiles of this side, stand for what their sources show: their pictures, the faults that reads of
-- them gave, and which of them keep their bytes.
pub record StandsFor {S R J : Type 0} (names : system.Ghosts J) (sources : source.Ghosts S R) (side : ℕ) (images : List (Item S)) :
    Type 0 where
  pub pictures : (name : List ℕ) → names.pictures name ≡ pictures_of sources.bytes images name
  pub gave : (name : List ℕ) (f : ReadFault) → names.gave name f ≡ gave_of sources.gave images name f
  pub stable : (name : List ℕ) (item : Item S) → item_named images name ≡ Some item → names.stable name → ∥ sources.keeps item.source ∥₁
  pub kept : (name : List ℕ) (item : Item S) → item_named images name ≡ Some item → sources.keeps item.source → names.stable name
  pub edge : side ≡ names.edge
