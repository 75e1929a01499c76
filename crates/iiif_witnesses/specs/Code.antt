-- Words of private functions: what a node over memory is made of.
use Rattle.std.specs.Prelude.{◌≡◌, ℕ, List, [], ◌∷◌, IsTrue, false}
use Rattle.std.specs.declared.sync.ledger.Blank.{Blank}
use Rattle.iiif_source.specs.declared.ReadFault.{ReadFault}
use Rattle.iiif_tiff.specs.Tiff.{scheme}
use Rattle.iiif_keys.specs.Ledgers.{all_parts}
use Rattle.iiif_keys.specs.Names.{Pictures}
use Rattle.iiif_keys.specs.declared.system.System as system
use Rattle.iiif_tile_group.specs.Collection.{Item}
use Rattle.iiif_tile_group.specs.Named.{gave_of, pictures_of}

-- images in memory: the bytes of each are its source
abbrev pub Images : Type 0
Images = List (Item (List ℕ))

-- a file, the only image, under a name
abbrev pub images_of : List ℕ → List ℕ → Images
images_of name file = (record { name = name; source = file; layout = scheme file }) ∷ []

-- the picture of each name
abbrev pub pictures_held : Images → Pictures
pictures_held images = pictures_of (λ (source : List ℕ). source) images

-- a ledger of this name, with as many parts as that of a group has
abbrev pub IsBlankOf : ℕ → ℕ → Blank → Type 0
IsBlankOf name parts blank = (blank.name ≡ name) × (blank.parts ≡ parts) × (parts ≡ all_parts)

-- The system of a node over these images.
pub record IsLocal {J : Type 0} (names : system.Ghosts J) (side : ℕ) (images : Images) (blanks : Blank × Blank) : Type 0 where
  -- Names have the pictures that these images show.
  pub pictures : names.pictures ≡ pictures_held images
  -- No read of them failed.
  pub gave : (name : List ℕ) (f : ReadFault) → names.gave name f ≡ gave_of (λ (source : List ℕ) (fault : ReadFault). false) images name f
  -- Tiles have this side.
  pub edge : side ≡ names.edge
  -- Each name is stable.
  pub stable : (name : List ℕ) → names.stable name
  -- Other nodes are honest.
  pub honest : IsTrue names.honest
  -- The first ledger is that of the tiles.
  pub tiles : IsBlankOf names.tiles_name names.tiles_parts blanks.0
  -- The second is that of the sums.
  pub sums : IsBlankOf names.sums_name names.sums_parts blanks.1
