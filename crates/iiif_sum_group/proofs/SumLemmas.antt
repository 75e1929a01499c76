-- Sums merged one after another, the sums of a block with one part, and the faults of loads.
use Rattle.std.proofs.Common.{◌≡◌, ℕ, zero, suc, ◌+◌, ◌-◌, ◌<◌, ◌≤◌, ◌⊎◌, inl, inr, Bool, true, false, List, [], ◌∷◌, ◌++◌, length}
use Rattle.std.proofs.Common.{get_or, take, not, map, fold, All, Global, Result, Err, refl, sym, subst, ap, ◌∙◌, arith}
use Rattle.std.specs.Prelude.{if◌then◌else◌, ◌==◌, count_by, cond, IfErr, IsTrue}
use Rattle.std.proofs.Math.Dec.{eqb-suc-zero}
use Rattle.std.specs.List.{filter}
use Rattle.std.specs.Arc.{arc_value}
use Rattle.std.specs.declared.sync.Arc.{Arc}
use Rattle.std.proofs.lemmas.List.{length-map, map-append, take_more}
use Rattle.std.proofs.lemmas.List.Elements.{All-append, All-cons, All-get_or, All-head, All-nil, All-tail}
use Rattle.std.proofs.lemmas.List.Filters.{length-filter_both}
use Rattle.std.proofs.lemmas.Result.{IfErr-at_err}
use Rattle.iiif_outcome.specs.Outcomes.{is_given}
use Rattle.iiif_pixel.specs.Geometry.{channels_of, sides_of, HasPlace}
use Rattle.iiif_pixel.specs.Operations.{crop}
use Rattle.iiif_pixel.specs.Picture.{dim_of}
use Rattle.iiif_pixel.specs.declared.geometry.Dim.{Dim}
use Rattle.iiif_pixel.specs.declared.geometry.Rect.{Rect}
use Rattle.iiif_area.specs.Grid.{Grid, has_place, merged, sums_of}
use Rattle.iiif_area.specs.Places.{places_of}
use Rattle.iiif_area.proofs.GridLaws.{has_place-tested}
use Rattle.iiif_tile_group.specs.Faults.{IsLoadFault}
use Rattle.iiif_keys.specs.Blocks.{part_in, places_in, NamesPart, SumFitsIn}
use Rattle.iiif_keys.specs.Laws.{IsBelow, PartsAreBelow, PartsCut, PartsFit, PartsMakeMeaning}
use Rattle.iiif_keys.specs.Meaning.{meets_rect, no_sums, quarters, sum_is_shaped, sum_meaning, sums_below, sums_in, SumHasShape}
use Rattle.iiif_keys.specs.Names.{Pictures, named, IsSource}
use Rattle.iiif_keys.specs.Shapes.{HasPicture}
use Rattle.iiif_keys.specs.declared.fault.Fault.{Fault}
use Rattle.iiif_keys.specs.declared.fault.Fault.TheVariants.{Source, NoMemory, UnknownName, BadKey}
use Rattle.iiif_keys.specs.declared.keys.Shape.{Shape}
use Rattle.iiif_keys.specs.declared.keys.SumKey.{SumKey}
use Rattle.iiif_keys.specs.declared.values.SumVal.{SumVal}
use Rattle.iiif_keys.proofs.Cuts.{counted}
use Rattle.iiif_keys.proofs.Shaped.{kind_with_channels}
use Rattle.iiif_source.specs.declared.ReadFault.{ReadFault}
use Rattle.iiif_sum_group.specs.Values.{ArePlaces, AreSums, AreValuesOf, MayBeSums}

-- one more of what is alike in two lists
pub mapped_more : {A B C : Type 0} (f : A → C) (h : B → C) (keys : List A) (values : List B) (i : ℕ) (q : A) (v : B) → i < length keys →
    get_or keys i q ≡ q
    → h v ≡ f q → map h values ≡ map f (take i keys) → map h (values ++ v ∷ []) ≡ map f (take (i + 1) keys)
mapped_more {A} {B} {C} f h keys values i q v inside is made before =
    let more : take (i + 1) keys ≡ take i keys ++ q ∷ [] = take_more keys i q inside ∙ ap (λ (x : A). take i keys ++ x ∷ []) is in
    map-append h values (v ∷ [])
    ∙ ap (λ (gs : List C). gs ++ h v ∷ []) before
    ∙ ap (λ (u : C). map f (take i keys) ++ u ∷ []) made
    ∙ sym (map-append f (take i keys) (q ∷ []))
    ∙ ap (λ (ks : List A). map f ks) (sym more)

-- the values of one part more
pub one_value_more : (shows : Pictures) (s : Shape) (trusted : Type 0) (keys : List SumKey) (i : ℕ) (q : SumKey) (v : Arc SumVal Global)
    (old new : List (Arc SumVal Global)) → i < length keys → get_or keys i q ≡ q
    → (trusted → arc_value v ≡ sum_meaning shows q) → SumHasShape s q (arc_value v) → AreValuesOf shows s trusted (take i keys) old →
    new ≡ old ++ v ∷ [] → AreValuesOf shows s trusted (take (i + 1) keys) new
one_value_more shows s trusted keys i q v old new inside is meant shape before kept =
    let P : Arc SumVal Global → Type 0 = λ x. (sums_in x).channels ≡ channels_of s.kind in
    let here : P v = shape.sums_a_place in
    let more : AreValuesOf shows s trusted (take (i + 1) keys) (old ++ v ∷ []) = record {
      meant = λ t. mapped_more (λ q. (sum_meaning shows q).sums) sums_in keys old i q v inside is (ap (λ (u : SumVal). u.sums) (meant t))
          (before.meant t);
      places = mapped_more (places_in s.dim) (λ x. (sums_in x).rect) keys old i q v inside is shape.places before.places;
      channels = All-append P old (v ∷ []) before.channels (All-cons P v [] here (All-nil P));
    } in
    subst (AreValuesOf shows s trusted (take (i + 1) keys)) (sym kept) more

-- a block has at most four parts
pub few_parts : (k : SumKey) → length (sums_below k) ≤ 4
few_parts k =
    let both : length (filter meets_rect (quarters k)) + length (filter (λ q. not (meets_rect q)) (quarters k)) ≡ 4 =
    length-filter_both meets_rect (λ q. not (meets_rect q)) (λ q. refl) (quarters k) in
    omega (arith, both)

cons_alike : {C : Type 0} (x y : C) (xs ys : List C) → x ≡ y → xs ≡ ys → x ∷ xs ≡ y ∷ ys
cons_alike {C} x y xs ys e es = ap (λ (z : C). z ∷ xs) e ∙ ap (λ (zs : List C). y ∷ zs) es

-- values that may be answered for the parts of a block are the values of these
pub answered_values : ((shows : Pictures) (s : Shape) (k : SumKey) (v : SumVal) → HasPicture shows k.name s →
    (IsTrue (sum_is_shaped shows k v) → SumHasShape s k v) × (SumHasShape s k v → IsTrue (sum_is_shaped shows k v)))
    → (shows : Pictures) (s : Shape) (stable : List ℕ → Type 0) (honest : Bool) (block : SumKey) (keys : List SumKey)
    (values : List (Arc SumVal Global)) → HasPicture shows block.name s → All (IsBelow block) keys →
    MayBeSums shows stable honest keys values → AreValuesOf shows s (stable block.name × IsTrue honest) keys values
answered_values shapes shows s stable honest block [] [] known below are = record {
  meant = λ t. refl;
  places = refl;
  channels = All-nil (λ (x : Arc SumVal Global). (sums_in x).channels ≡ channels_of s.kind);
}
answered_values shapes shows s stable honest block [] (v ∷ vs) known below are = absurd are
answered_values shapes shows s stable honest block (k ∷ ks) [] known below are = absurd are
answered_values shapes shows s stable honest block (k ∷ ks) (v ∷ vs) known below are =
    let P : Arc SumVal Global → Type 0 = λ x. (sums_in x).channels ≡ channels_of s.kind in
    let is : IsBelow block k = All-head (IsBelow block) k ks below in
    let rest = answered_values shapes shows s stable honest block ks vs known (All-tail (IsBelow block) k ks below) are.1 in
    let here : HasPicture shows k.name s = subst (λ (n : List ℕ). HasPicture shows n s) (sym is.name) known in
    let shape : SumHasShape s k (arc_value v) = (shapes shows s k (arc_value v) here).0 are.0.has_shape in
    record {
      meant = λ t. cons_alike (sums_in v) (sum_meaning shows k).sums (map sums_in vs) (map (λ q. (sum_meaning shows q).sums) ks)
          (ap (λ (u : SumVal). u.sums) (are.0.meant (subst stable (sym is.name) t.0) t.1)) (rest.meant t);
      places = cons_alike (sums_in v).rect (places_in s.dim k) (map (λ x. (sums_in x).rect) vs) (map (places_in s.dim) ks) shape.places
          rest.places;
      channels = All-cons P v vs shape.sums_a_place rest.channels;
    }

not_zero : (l : ℕ) → 0 < l → (l == 0) ≡ false
not_zero zero h = absurd (omega arith)
not_zero (suc l) h = eqb-suc-zero l

chosen : (b : Bool) (x y : Grid) → b ≡ false → (if b then x else y) ≡ y
chosen b x y e = ap (λ (c : Bool). if c then x else y) e

-- the picture of a name has as many channels as its shape says
channels_are : (shows : Pictures) (name : List ℕ) (s : Shape) → HasPicture shows name s → IsSource (named shows name) →
    channels_of s.kind ≡ (named shows name).channels
channels_are shows name s has source =
    ap (λ (u : Shape). channels_of u.kind) (sym has.shape) ∙ kind_with_channels (named shows name).channels source.whole.channels

-- all parts make the meaning
pub all_parts : PartsMakeMeaning → (shows : Pictures) (k : SumKey) (s : Shape) (v : SumVal) → HasPicture shows k.name s →
    IsSource (named shows k.name)
    → SumFitsIn s.dim (channels_of s.kind) k → 0 < k.level →
    v.sums ≡ fold merged (no_sums s.dim (channels_of s.kind) k) (map (λ q. (sum_meaning shows q).sums) (sums_below k))
    → v ≡ sum_meaning shows k
all_parts makes shows k s v has source fits above made =
    let p = named shows k.name in
    let start : no_sums s.dim (channels_of s.kind) k ≡ no_sums (dim_of p) p.channels k =
    ap (λ (u : Shape). no_sums u.dim (channels_of s.kind) k) (sym has.shape) ∙
    ap (λ (n : ℕ). no_sums (dim_of p) n k) (channels_are shows k.name s has source) in
    ap (λ (g : Grid). let u : SumVal = record { sums = g } in u)
    (made ∙ ap (λ (g : Grid). fold merged g (map (λ q. (sum_meaning shows q).sums) (sums_below k))) start ∙
    sym (chosen (k.level == 0) _ _ (not_zero k.level above)))
    ∙ makes shows s k has source fits

-- the values of all parts make the meaning
pub all_values : PartsMakeMeaning → (shows : Pictures) (k : SumKey) (s : Shape) (v : SumVal) (values : List (Arc SumVal Global)) →
    HasPicture shows k.name s → IsSource (named shows k.name)
    → SumFitsIn s.dim (channels_of s.kind) k → 0 < k.level → AreSums shows (sums_below k) values
    → v.sums ≡ fold merged (no_sums s.dim (channels_of s.kind) k) (map sums_in values) → v ≡ sum_meaning shows k
all_values makes shows k s v values has source fits above are made =
    all_parts makes shows k s v has source fits above
    (made ∙ ap (λ (gs : List Grid). fold merged (no_sums s.dim (channels_of s.kind) k) gs) are)

-- rectangles that aren't empty and have the same places are one
same_rect : (r s : Rect) → 0 < r.w → 0 < r.h → 0 < s.w → 0 < s.h → ((x y : ℕ) → HasPlace r x y → HasPlace s x y) →
    ((x y : ℕ) → HasPlace s x y → HasPlace r x y) → r ≡ s
same_rect r s a1 a2 a3 a4 to from =
    let a = to r.x r.y (omega arith, omega arith, omega arith, omega arith) in
    let b = to (r.x + r.w - 1) (r.y + r.h - 1) (omega arith, omega arith, omega arith, omega arith) in
    let c = from s.x s.y (omega arith, omega arith, omega arith, omega arith) in
    let d = from (s.x + s.w - 1) (s.y + s.h - 1) (omega arith, omega arith, omega arith, omega arith) in
    let x : r.x ≡ s.x = omega (arith, a.0, c.0) in
    let y : r.y ≡ s.y = omega (arith, a.2, c.2) in
    let w : r.w ≡ s.w = omega (arith, x, b.1, d.1) in
    let h : r.h ≡ s.h = omega (arith, y, b.3, d.3) in
    ap (λ (n : ℕ). let u : Rect = record { x = n; y = r.y; w = r.w; h = r.h } in u) x
    ∙ ap (λ (n : ℕ). let u : Rect = record { x = s.x; y = n; w = r.w; h = r.h } in u) y
    ∙ ap (λ (n : ℕ). let u : Rect = record { x = s.x; y = s.y; w = n; h = r.h } in u) w
    ∙ ap (λ (n : ℕ). let u : Rect = record { x = s.x; y = s.y; w = s.w; h = n } in u) h

same_count : (a b : Bool) → cond a 1 0 + 0 ≡ (if b then 1 else 0) → a ≡ b
same_count true true e = refl
same_count true false e = absurd (omega (arith, e))
same_count false true e = absurd (omega (arith, e))
same_count false false e = refl

-- a block with one part has its part of the rectangle
one_part : PartsCut → PartsFit → (image : Dim) (channels : ℕ) (k q : SumKey) → 0 < k.level → SumFitsIn image channels k →
    sums_below k ≡ q ∷ [] → part_in image q ≡ part_in image k
one_part cut fit image channels k q above fits is =
    let r = part_in image q in
    let s = part_in image k in
    let own : SumFitsIn image channels q = All-get_or (SumFitsIn image channels) (q ∷ []) 0 q (omega arith)
    (subst (All (SumFitsIn image channels)) is (fit image channels k above fits)) in
    let counts : (x y : ℕ) → count_by (λ t. has_place t x y) (r ∷ []) ≡ (if has_place s x y then 1 else 0) =
    λ x y. subst (λ (ks : List SumKey). count_by (λ t. has_place t x y) (map (part_in image) ks) ≡ (if has_place s x y then 1 else 0))
    is (cut image k above fits.block x y) in
    let test : (x y : ℕ) → has_place r x y ≡ has_place s x y =
    λ x y. same_count (has_place r x y) (has_place s x y) (sym (counted (λ (t : Rect). has_place t x y) r []) ∙ counts x y) in
    same_rect r s own.block.meets.columns own.block.meets.rows fits.block.meets.columns fits.block.meets.rows
    (λ x y h. (has_place-tested s x y).0 (sym (test x y) ∙ (has_place-tested r x y).1 h))
    (λ x y h. (has_place-tested r x y).0 (test x y ∙ (has_place-tested s x y).1 h))

one_of : {A : Type 0} (ks : List A) → length ks ≡ 1 → (q : A) × (ks ≡ q ∷ [])
one_of [] e = absurd (omega (arith, e))
one_of (q ∷ []) e = (q, refl)
one_of (q ∷ p ∷ ks) e = absurd (omega (arith, e))

first_is : {A B C : Type 0} (h : B → C) (f : A → C) (v : B) (q : A) (ks : List A) → map h (v ∷ []) ≡ map f ks → ks ≡ q ∷ [] → h v ≡ f q
first_is {A} {B} {C} h f v q ks alike is = ap (λ (cs : List C). get_or cs 0 (h v)) (alike ∙ ap (λ (l : List A). map f l) is)

one_below : (image : Dim) (k : SumKey) (v : Arc SumVal Global) → ArePlaces image (sums_below k) (v ∷ []) → (q : SumKey) ×
    (sums_below k ≡ q ∷ [])
one_below image k v are = one_of (sums_below k)
    (sym (length-map (sums_below k) (places_in image)) ∙ ap (λ (rs : List Rect). length rs) (sym are))

below_one : PartsAreBelow → (k q : SumKey) → 0 < k.level → sums_below k ≡ q ∷ [] → IsBelow k q
below_one below k q above is = All-get_or (IsBelow k) (q ∷ []) 0 q (omega arith) (subst (All (IsBelow k)) is (below k above))

-- so the value of its only part stands where its own does
pub only_places : PartsCut → PartsFit → PartsAreBelow → (image : Dim) (channels : ℕ) (k : SumKey) (v : Arc SumVal Global) →
    0 < k.level → SumFitsIn image channels k
    → ArePlaces image (sums_below k) (v ∷ []) → (sums_in v).rect ≡ places_in image k
only_places cut fit below image channels k v above fits are =
    let one = one_below image k v are in
    let q = one.0 in
    let is = below_one below k q above one.1 in
    first_is (λ x. (sums_in x).rect) (places_in image) v q (sums_below k) are one.1
    ∙ ap (λ (r : Rect). places_of (sides_of r) q.size (part_in image q)) is.rect
    ∙ ap (λ (d : Dim). places_of (sides_of k.rect) d (part_in image q)) is.size
    ∙ ap (λ (r : Rect). places_of (sides_of k.rect) k.size r) (one_part cut fit image channels k q above fits one.1)

-- and is its value
pub only_value : PartsCut → PartsFit → PartsAreBelow → (shows : Pictures) (k : SumKey) (s : Shape) (v : Arc SumVal Global) →
    HasPicture shows k.name s → 0 < k.level
    → SumFitsIn s.dim (channels_of s.kind) k → ArePlaces s.dim (sums_below k) (v ∷ []) → AreSums shows (sums_below k) (v ∷ []) →
    arc_value v ≡ sum_meaning shows k
only_value cut fit below shows k s v has above fits places are =
    let one = one_below s.dim k v places in
    let q = one.0 in
    let is = below_one below k q above one.1 in
    let p = named shows k.name in
    let image : s.dim ≡ dim_of p = ap (λ (u : Shape). u.dim) (sym has.shape) in
    let part : part_in (dim_of p) q ≡ part_in (dim_of p) k =
    subst (λ (d : Dim). part_in d q ≡ part_in d k) image (one_part cut fit s.dim (channels_of s.kind) k q above fits one.1) in
    let sums : sums_in v ≡ sums_of (crop p k.rect) k.size (part_in (dim_of p) k) =
    first_is sums_in (λ x. (sum_meaning shows x).sums) v q (sums_below k) are one.1
    ∙ ap (λ (n : List ℕ). sums_of (crop (named shows n) q.rect) q.size (part_in (dim_of (named shows n)) q)) is.name
    ∙ ap (λ (r : Rect). sums_of (crop p r) q.size (part_in (dim_of p) q)) is.rect
    ∙ ap (λ (d : Dim). sums_of (crop p k.rect) d (part_in (dim_of p) q)) is.size
    ∙ ap (λ (r : Rect). sums_of (crop p k.rect) k.size r) part in
    ap (λ (g : Grid). let u : SumVal = record { sums = g } in u) sums

-- lack of memory may always be told: where what was made wanted it too
pub wanting : (gave : ReadFault → Bool) {V : Type 0} (made : Result V Fault) (f : Fault) → IfErr made (λ e. e ≡ NoMemory) →
    (f ≡ NoMemory) ⊎ (made ≡ Err f) → IsTrue (is_given gave f)
wanting gave made f want (inl is) = subst (λ (e : Fault). is_given gave e ≡ true) (sym is) refl
wanting gave made f want (inr is) = subst (λ (e : Fault). is_given gave e ≡ true) (sym (IfErr-at_err (λ e. e ≡ NoMemory) is want)) refl

-- a fault that was given, of a key that names something, is one of a load
pub load_fault : (shows : Pictures) (edge : ℕ) (name : List ℕ) (own : ℕ) (fits_in : Shape → Type 0) (gave : ReadFault → Bool)
    (f : Fault) → NamesPart shows edge name own fits_in
    → IsTrue (is_given gave f) → IsLoadFault shows edge name own fits_in gave f
load_fault shows edge name own fits_in gave (Source g) names given = (names, given)
load_fault shows edge name own fits_in gave NoMemory names given = names
load_fault shows edge name own fits_in gave UnknownName names given = absurd (let e = given in cc)
load_fault shows edge name own fits_in gave BadKey names given = absurd (let e = given in cc)

-- the fault that a `?` passes on
pub fault_passed_on : {U : Type 0} (P : Fault → Type 0) (r : Result U Fault) (f : Fault) → P f →
    (y : Fault) × (r ≡ Err y) × (y ≡ f) → IfErr r P
fault_passed_on {U} P r f h is = subst (λ (x : Result U Fault). IfErr x P) (sym is.1) (subst P (sym is.2) h)
