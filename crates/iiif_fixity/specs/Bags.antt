-- Folders with a manifest: the names that it lists are paths in its folder (RFC 8493, section 2.1.3).
use Rattle.std.specs.Prelude.{◌≡◌, ◌≢◌, ℕ, ◌-◌, ◌<◌, List, ◌++◌, Option, drop, length, slice_index, take, if◌then◌else◌, bytes_eq}
use Rattle.iiif_fixity.specs.Manifests.{digest_named}
use Rattle.iiif_fixity.specs.declared.bag.Bag.{Bag}

-- a path as a manifest of a folder names it: what stands behind the folder, where the path begins with that
abbrev pub name_under : List ℕ → List ℕ → List ℕ
name_under folder path = if bytes_eq (take (length folder) path) folder then drop (length folder) path else path

-- the digest that is listed of a path, if there is one
abbrev pub digest_of : Bag → List ℕ → Option (List ℕ)
digest_of bag path = digest_named bag.manifest.now (name_under bag.folder.now path)

-- A path leads to a folder: it is the folder's and then the name of a file, without a slash. A folder that isn't empty ends with one.
pub record IsFolderOf (path folder : List ℕ) : Type 0 where
  pub file : List ℕ
  pub whole : path ≡ folder ++ file
  pub name : (i : ℕ) → i < length file → slice_index file i ≢ 47
  pub slash : 0 < length folder → slice_index folder (length folder - 1) ≡ 47
