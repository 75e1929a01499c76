-- Folders of images: a file's name, without its ending, is an image's.
use Rattle.std.specs.Prelude.{◌≡◌, ◌≢◌, ◌⊎◌, ◌++◌, ◌==◌, ◌&&◌, ℕ, ◌<◌, Bool, not, List, codes, length, map, slice_index, take, string_bytes}
use Rattle.std.specs.Prelude.{slice_index_or}
use Rattle.iiif_image_list.specs.Lists.{Image, IsRefusal, image_with, refusal_of_name}
use Rattle.iiif_image_list.specs.declared.fault.Fault.{Fault}
use Rattle.iiif_image_list.specs.declared.folder.FolderImage.{FolderImage}

-- a name that begins with a dot
abbrev pub is_hidden : List ℕ → Bool
is_hidden file = not (length file == 0) && slice_index file 0 == 46

-- the name behind which one of the endings makes the file's name
abbrev pub IsNameOf : List ℕ → List ℕ → Type 0
IsNameOf file name =
    (file ≡ name ++ codes ".tif") ⊎ (file ≡ name ++ codes ".tiff") ⊎ (file ≡ name ++ codes ".TIF") ⊎ (file ≡ name ++ codes ".TIFF")

-- a name that has none of the endings
pub record EndsInNone (file : List ℕ) : Type 0 where
  pub tif : (name : List ℕ) → file ≢ name ++ codes ".tif"
  pub tiff : (name : List ℕ) → file ≢ name ++ codes ".tiff"
  pub capital_tif : (name : List ℕ) → file ≢ name ++ codes ".TIF"
  pub capital_tiff : (name : List ℕ) → file ≢ name ++ codes ".TIFF"

-- the image of a folder's file
abbrev pub image_in : FolderImage → Image
image_in file = image_with (string_bytes file.name) (string_bytes file.path)

-- A folder ends at the first of its files that has no place in a list, counted from 0. The images of those before it are taken.
pub record EndsAtFile (images : List Image) (files : List FolderImage) (place : ℕ) (fault : Fault) (after : List Image) : Type 0 where
  pub within : place < length files
  pub taken : after ≡ images ++ map image_in (take place files)
  pub refused : (file : FolderImage) → IsRefusal (refusal_of_name after (string_bytes (slice_index_or files place file).name)) fault
