-- Images of a folder.
use Rattle.std.specs.Prelude.{◌≡◌, ◌⊎◌, ◌++◌, ℕ, List, codes, string_bytes}
use Rattle.iiif_image_list.specs.Folders.{IsNameOf}
use Rattle.iiif_image_list.specs.declared.folder.FolderImage.{FolderImage}

-- The image of a folder's file: its name is the file's without an ending, and its path is the file's in the folder.
pub record IsImageIn (folder file : List ℕ) (image : FolderImage) : Type 0 where
  pub name : IsNameOf file (string_bytes image.name)
  pub path : (string_bytes image.path ≡ folder ++ file) ⊎ (string_bytes image.path ≡ folder ++ codes "/" ++ file)
