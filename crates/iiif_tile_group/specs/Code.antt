-- Words of private functions.
use Rattle.std.specs.Prelude.{◌≡◌, ◌<◌, ℕ, IfSome, List, String, length, slice_get}
use Rattle.std.specs.BTreeMap.{BTreeMap, get_by_text}
use Rattle.std.specs.Option.{option_and_then}
use Rattle.std.specs.declared.alloc.Global.{Global}
use Rattle.iiif_tile_group.specs.Collection.{Item, item_named}

-- Under the name of each of these images stands its index, and nothing under any other name.
pub record AreIndicesOf {S : Type 0} (indices : BTreeMap (String Global) ℕ) (items : List (Item S)) : Type 0 where
  -- The index under a name is that of the image of this name.
  pub found : (name : List ℕ) → option_and_then (slice_get items) (get_by_text indices name) ≡ item_named items name
  -- Each index is one of the list.
  pub within : (name : List ℕ) → IfSome (get_by_text indices name) (λ i. i < length items)
