-- Pictures, faults and stability of a catalogue's names.
use Rattle.std.specs.Prelude.{◌≡◌, ℕ, Bool, false, List, Option, None, Some, option_map}
use Rattle.iiif_pixel.specs.Picture.{Picture, picture_of}
use Rattle.iiif_source.specs.declared.ReadFault.{ReadFault}
use Rattle.iiif_source.specs.declared.Source as source
use Rattle.iiif_tiff.specs.Tiff.{shown, white_of}
use Rattle.iiif_keys.specs.Names.{Pictures, IsSource}
use Rattle.iiif_keys.specs.declared.system.System as system
use Rattle.iiif_tile_group.specs.Collection.{Item, item_named}

-- The picture that an image's layout shows in the bytes of its source: TIFF 6.0, sections 3 to 8 and 15. Of a source whose bytes
-- may change it is some picture with the sides, the channels and the depth that the file said.
unfoldable pub picture_in : {S : Type 0} → (S → List ℕ) → Item S → Picture
picture_in bytes item =
    let l = item.layout in
    picture_of l.width l.height l.channels (white_of l.bits) (shown (bytes item.source) l)

-- the picture of each name
abbrev pub pictures_of : {S : Type 0} → (S → List ℕ) → List (Item S) → Pictures
pictures_of bytes items name = option_map (picture_in bytes) (item_named items name)

-- the faults that an image's source gave, where there is an image
unfoldable pub given_by : {S : Type 0} → (S → ReadFault → Bool) → Option (Item S) → ReadFault → Bool
given_by gave None f = false
given_by gave (Some item) f = gave item.source f

-- the faults that the source of each name gave
abbrev pub gave_of : {S : Type 0} → (S → ReadFault → Bool) → List (Item S) → List ℕ → ReadFault → Bool
gave_of gave items name f = given_by gave (item_named items name) f

-- which names are stable: those of images whose sources keep their bytes
abbrev pub stable_by : {S : Type 0} → (S → Type 0) → Option (Item S) → Type 0
stable_by keeps None = ⊥
stable_by keeps (Some item) = keeps item.source

abbrev pub stable_of : {S : Type 0} → (S → Type 0) → List (Item S) → List ℕ → Type 0
stable_of keeps items name = stable_by keeps (item_named items name)

module _ {S R J : Type 0} (sources : source.Ghosts S R) (node : system.Ghosts J) where
  -- The image that a name stands for on a node.
  pub record IsImageOf (name : List ℕ) (item : Item S) : Type 0 where
    -- The name's picture is the one that the image's layout shows in its file.
    pub picture : node.pictures name ≡ Some (picture_in sources.bytes item)
    -- A source may have that picture: its samples are whole, and its sides can be read.
    pub source : IsSource (picture_in sources.bytes item)
    -- The faults of the name are those that the image's source gave.
    pub gave_is : (f : ReadFault) → node.gave name f ≡ sources.gave item.source f
    -- Where the name is stable, the source keeps its bytes.
    pub kept : node.stable name → ∥ sources.keeps item.source ∥₁
