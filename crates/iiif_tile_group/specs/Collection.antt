-- The images that a node has.
use Rattle.std.specs.Prelude.{◌≡◌, ℕ, not, List, find, bytes_eq, Option, Some, None, Result, Ok, Err, is_some, if◌then◌else◌}
use Rattle.iiif_keys.specs.Names.{is_name}
use Rattle.iiif_tiff.specs.Tiff.{Scheme}
use Rattle.iiif_tile_group.specs.declared.catalogue.AddFault.{AddFault}
use Rattle.iiif_tile_group.specs.declared.catalogue.AddFault.TheVariants.{Name, Twice, NoMemory}

-- the fault's number outside
abbrev pub number_of : AddFault → ℕ
number_of Name = 1
number_of Twice = 2
number_of NoMemory = 3

-- an image: its name, the source of its file, and what the file said when it was opened
pub record Item (S : Type 0) : Type 0 where
  pub name : List ℕ
  pub source : S
  pub layout : Scheme

-- the image of that name
abbrev pub item_named : {S : Type 0} → List (Item S) → List ℕ → Option (Item S)
item_named items name = find (λ item. bytes_eq item.name name) items

-- why an image isn't taken in: its name is none, or there is one of that name
unfoldable pub refusal_of_name : {S : Type 0} → List (Item S) → List ℕ → Option AddFault
refusal_of_name items name =
    if not (is_name name) then Some Name else (
    if is_some (item_named items name) then Some Twice else None)

-- An image of that name is taken in only where nothing speaks against it; a fault is what does, or lack of memory.
abbrev pub Takes : {S : Type 0} → List (Item S) → List ℕ → Result (Unit {0}) AddFault → Type 0
Takes items name (Ok _) = refusal_of_name items name ≡ None
Takes items name (Err NoMemory) = Unit {0}
Takes items name (Err fault) = refusal_of_name items name ≡ Some fault
