-- Names of a catalogue, and what they stand for.
use Rattle.std.proofs.Common.{◌≡◌, ℕ, Bool, List, Option, Some, option_map, sym, ap, subst, ◌∙◌}
use Rattle.std.specs.Prelude.{unwrap_or}
use Rattle.iiif_pixel.specs.Picture.{Picture}
use Rattle.iiif_source.specs.declared.ReadFault.{ReadFault}
use Rattle.iiif_keys.specs.Names.{Pictures, named, no_picture, IsSource}
use Rattle.iiif_keys.specs.Shapes.{shape_of, HasPicture}
use Rattle.iiif_keys.specs.declared.keys.Shape.{Shape}
use Rattle.iiif_tile_group.specs.Collection.{Item, item_named}
use Rattle.iiif_tile_group.specs.Named.{gave_of, given_by, picture_in, pictures_of}

gave_there : {S : Type 0} (gave : S → ReadFault → Bool) (items : List (Item S)) (name : List ℕ) (item : Item S) (f : ReadFault)
    → item_named items name ≡ Some item → gave_of gave items name f ≡ gave item.source f
unfolding given_by
gave_there gave items name item f e = ap (λ o. given_by gave o f) e

-- what the name of an image stands for, where names have these pictures and faults, and these are stable
pub record IsThere {S : Type 0} (shows : Pictures) (gave : List ℕ → ReadFault → Bool) (stable : List ℕ → Type 0) (bytes : S → List ℕ)
    (source_gave : S → ReadFault → Bool) (keeps : S → Type 0) (name : List ℕ) (item : Item S) : Type 0 where
  pub picture : shows name ≡ Some (picture_in bytes item)
  pub source : IsSource (picture_in bytes item)
  pub gave_is : (f : ReadFault) → gave name f ≡ source_gave item.source f
  pub kept : stable name → ∥ keeps item.source ∥₁

-- the image that stands under a name
pub image_there : {S : Type 0} (shows : Pictures) (gave : List ℕ → ReadFault → Bool) (stable : List ℕ → Type 0) (bytes : S → List ℕ)
    (source_gave : S → ReadFault → Bool)
    (keeps : S → Type 0) (items : List (Item S)) (name : List ℕ) (item : Item S)
    → shows name ≡ pictures_of bytes items name → ((f : ReadFault) → gave name f ≡ gave_of source_gave items name f)
    → ((i : Item S) → item_named items name ≡ Some i → stable name → ∥ keeps i.source ∥₁)
    → IsSource (picture_in bytes item) → item_named items name ≡ Some item
    → IsThere shows gave stable bytes source_gave keeps name item
image_there shows gave stable bytes source_gave keeps items name item picture gives kept source found = record {
  picture = picture ∙ ap (option_map (picture_in bytes)) found;
  source = source;
  gave_is = λ f. gives f ∙ gave_there source_gave items name item f found;
  kept = kept item found;
}

pub has_picture : (shows : Pictures) (name : List ℕ) (p : Picture) (s : Shape) → shows name ≡ Some p → shape_of p ≡ s →
    HasPicture shows name s
has_picture shows name p s e shape =
    let is : named shows name ≡ p = ap (λ (o : Option Picture). unwrap_or o no_picture) e in
    record {
      known = e ∙ ap (λ (q : Picture). Some q) (sym is);
      shape = ap (λ (q : Picture). shape_of q) is ∙ shape;
    }

pub named_source : (shows : Pictures) (name : List ℕ) (p : Picture) → shows name ≡ Some p → IsSource p → IsSource (named shows name)
named_source shows name p e s = subst IsSource (sym (ap (λ (o : Option Picture). unwrap_or o no_picture) e)) s
