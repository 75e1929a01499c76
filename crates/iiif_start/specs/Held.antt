-- What is held in memory of the files of images.
use Rattle.std.specs.Prelude.{ℕ, List, length, Option, None, Some}
use Rattle.std.specs.List.{sum_by}
use denote.Ref.{Bor}
use Rattle.iiif_tile_group.specs.Collection.{Item, item_named}
use Rattle.iiif_start.specs.declared.stored.Stored.{Stored}
use Rattle.iiif_start.specs.declared.stored.Stored.TheVariants.{Memory, File}

-- one image, where it is held
abbrev pub count_of : {R : Type 0} {d : _} → Stored R d → ℕ
count_of (Memory source) = 1
count_of (File source) = 0

-- how many bytes of it are held
abbrev pub bytes_held : {R : Type 0} {d : _} → Stored R d → ℕ
bytes_held (Memory source) = length source
bytes_held (File source) = 0

-- the same of an image, where there is one
abbrev pub count_in : {R : Type 0} {d : _} → Option (Item (Stored R d)) → ℕ
count_in None = 0
count_in (Some item) = count_of item.source

abbrev pub bytes_in : {R : Type 0} {d : _} → Option (Item (Stored R d)) → ℕ
bytes_in None = 0
bytes_in (Some item) = bytes_held item.source

-- how many images of these names and paths are held, and how many bytes of them
abbrev pub images_held : {R : Type 0} {d : _} → List (Item (Stored R d)) → List (Bor (List ℕ) × Bor (List ℕ)) → ℕ
images_held items images = sum_by (λ image. count_in (item_named items image.0.now)) images

abbrev pub all_bytes_held : {R : Type 0} {d : _} → List (Item (Stored R d)) → List (Bor (List ℕ) × Bor (List ℕ)) → ℕ
all_bytes_held items images = sum_by (λ image. bytes_in (item_named items image.0.now)) images
