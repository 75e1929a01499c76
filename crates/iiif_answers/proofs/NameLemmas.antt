-- Items that are found by their names.
use Rattle.std.proofs.Common.{◌≡◌, ℕ, Bool, true, false, List, [], ◌∷◌, Option, Some, bytes_eq, refl, sym, ap, ◌∙◌}
use Rattle.std.specs.Prelude.{if◌then◌else◌}
use Rattle.std.proofs.lemmas.Slice.Eq.{bytes_eq-Decides}
use Rattle.iiif_tile_group.specs.Collection.{Item, item_named}
use Rattle.iiif_tiff_read.specs.Layouts as layouts
use Rattle.iiif_keys.specs.Shapes.{shape_of}
use Rattle.iiif_keys.specs.declared.keys.Shape.{Shape}
use Rattle.iiif_tile_group.specs.Named.{picture_in}

chosen_name : {S : Type 0} (b : Bool) (x item : Item S) (rest : Option (Item S)) (id : List ℕ) → (b ≡ true → x.name ≡ id) →
    (rest ≡ Some item → item.name ≡ id) →
    (if b then Some x else rest) ≡ Some item → item.name ≡ id
chosen_name {S} true x item rest id first later e = let same : x ≡ item = cc in ap (λ (i : Item S). i.name) (sym same) ∙ first refl
chosen_name false x item rest id first later e = later e

-- what is found has the name
pub name_is : {S : Type 0} (items : List (Item S)) (id : List ℕ) (item : Item S) → item_named items id ≡ Some item → item.name ≡ id
name_is [] id item e = cc
name_is (x ∷ xs) id item e =
    chosen_name (bytes_eq x.name id) x item (item_named xs id) id (λ same. (bytes_eq-Decides x.name id).0 same)
    (λ found. name_is xs id item found) e

pub found_by_name : {S : Type 0} (items : List (Item S)) (id : List ℕ) (item : Item S) → item_named items id ≡ Some item →
    item_named items item.name ≡ Some item
found_by_name items id item e = ap (item_named items) (name_is items id item e) ∙ e

-- the sides of an item's picture are those of its layout
pub item_dim : {S : Type 0} (bytes : S → List ℕ) (item : Item S) (s : Shape) → shape_of (picture_in bytes item) ≡ s →
    layouts.dim_of item.layout ≡ s.dim
unfolding picture_in
item_dim bytes item s e = ap (λ (t : Shape). t.dim) e
