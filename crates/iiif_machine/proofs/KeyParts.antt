-- The laws of keys of both groups.
use Rattle.std.proofs.Common.{◌≡◌, ℕ, ◌<◌, List, [], ◌∷◌, Bool, true, false, Some, All, map, fold, refl, sym, ap, subst, ◌∙◌, arith}
use Rattle.std.proofs.Common.{if◌then◌else◌}
use Rattle.std.specs.Prelude.{slice_get, slice_index_or, ◌==◌, nat_eq}
use Rattle.std.proofs.lemmas.Option.{none-some, same_Some}
use Rattle.std.proofs.lemmas.Bool.{eqb-true, eqb-false, and_from, eq-eqb}
use Rattle.std.proofs.lemmas.Slice.Eq.{bytes_eq-Decides}
use Rattle.std.proofs.lemmas.List.Elements.{All-map, All-cons, All-nil}
use Rattle.iiif_pixel.specs.Geometry.{channels_of}
use Rattle.iiif_pixel.specs.Picture.{dim_of}
use Rattle.iiif_area.specs.Grid.{Grid, merged}
use Rattle.iiif_keys.specs.Names.{IsSource, named}
use Rattle.iiif_keys.specs.Shapes.{HasPicture, shape_of}
use Rattle.iiif_keys.specs.Blocks.{tile_of, places_in}
use Rattle.iiif_keys.specs.KeyLaws.{tile_identical, sum_identical}
use Rattle.iiif_keys.specs.Meaning.{tile_meaning, sum_meaning, tile_below, sums_below, tile_sums, no_sums}
use Rattle.iiif_keys.specs.declared.keys.SumKey.{SumKey}
use Rattle.iiif_keys.proofs.PartLaws.{parts_are_below, parts_fit, tile_fits}
use Rattle.iiif_keys.proofs.Derived.{derived_is, picture_is}
use Rattle.iiif_machine.specs.declared.keys.Key.TheVariants as key
use Rattle.iiif_machine.specs.declared.keys.Value.TheVariants as value
use Rattle.iiif_machine.specs.Scenes.{Scene, IsProper}
use Rattle.iiif_machine.specs.Keys.{Key, name_of, rank_of, key_eq, Fits, meaning, parts_of, picture_in, grid_in, derived}
use Rattle.iiif_machine.specs.KeyLaws.{KeysAreTold, PartsFit, PartsAreBelow, PartsMakeMeaning}

pub same_key : (a b : Key) → key_eq a b ≡ true → a ≡ b
unfolding key_eq
same_key (key.Tile a) (key.Tile b) h = ap key.Tile (tile_identical a b h)
same_key (key.Sum a) (key.Sum b) h = ap key.Sum (sum_identical a b h)
same_key (key.Tile a) (key.Sum b) h = absurd cc
same_key (key.Sum a) (key.Tile b) h = absurd cc

abbrev parts_by : SumKey → Bool → List Key
parts_by k b = if b then key.Tile (tile_below k) ∷ [] else map key.Sum (sums_below k)

-- what holds of the tile, or of each sum below, holds of the parts
all_parts : (P : Key → Type 0) (k : SumKey) (b : Bool) → (k.level == 0) ≡ b → (k.level ≡ 0 → P (key.Tile (tile_below k))) →
    (0 < k.level → All (λ q. P (key.Sum q)) (sums_below k)) →
    All P (parts_by k b)
all_parts P k true e tile sums = All-cons P (key.Tile (tile_below k)) [] (tile (eqb-true k.level 0 e)) (All-nil P)
all_parts P k false e tile sums =
    let above : 0 < k.level = grind (arith, eqb-false k.level 0 e) in
    All-map P key.Sum (sums_below k) (sums above)

pub parts_all : (P : Key → Type 0) (k : Key) (ks : List Key) → parts_of k ≡ Some ks →
    ((q : SumKey) → k ≡ key.Sum q → (q.level ≡ 0 → P (key.Tile (tile_below q))) × (0 < q.level → All (λ x. P (key.Sum x)) (sums_below q))) →
    All P ks
unfolding parts_of
parts_all P (key.Tile k) ks e h = absurd (none-some ks e)
parts_all P (key.Sum k) ks e h =
    let is = h k refl in
    subst (All P) (same_Some (parts_by k (k.level == 0)) ks e) (all_parts P k (k.level == 0) refl is.0 is.1)

tile_part_fits : (s : Scene) (k : SumKey) → Fits s (key.Sum k) → k.level ≡ 0 → Fits s (key.Tile (tile_below k))
unfolding Fits
tile_part_fits s k h level = record {
  picture = h.picture;
  known = h.known;
  own_edge = h.own_edge;
  fits =
      tile_fits (dim_of h.picture) (channels_of (shape_of h.picture).kind) k level h.fits;
}

sum_parts_fit : (s : Scene) (k : SumKey) → Fits s (key.Sum k) → 0 < k.level → All (λ q. Fits s (key.Sum q)) (sums_below k)
unfolding Fits
sum_parts_fit s k h above i d within =
    let q = slice_index_or (sums_below k) i d in
    let below = parts_are_below k above i d within in
    record {
      picture = h.picture;
      known = subst (λ n. s.shows n ≡ Some h.picture) (sym below.name) h.known;
      own_edge = below.edge ∙ h.own_edge;
      fits = parts_fit (dim_of h.picture) (channels_of (shape_of h.picture).kind) k above h.fits i d within;
    }

pub parts_fit_too : PartsFit
parts_fit_too s k ks e h = parts_all (Fits s) k ks e (λ q is. let f = subst (Fits s) is h in (tile_part_fits s q f, sum_parts_fit s q f))

abbrev IsBelow : Key → Key → Type 0
IsBelow k part = (name_of part ≡ name_of k) × (rank_of part < rank_of k)

tile_is_below : (k : SumKey) → IsBelow (key.Sum k) (key.Tile (tile_below k))
unfolding name_of rank_of
tile_is_below k = (refl, omega arith)

sums_are_below : (k : SumKey) → 0 < k.level → All (λ q. IsBelow (key.Sum k) (key.Sum q)) (sums_below k)
unfolding name_of rank_of
sums_are_below k above i d within = let below = parts_are_below k above i d within in (below.name, (let level = below.level in omega arith))

pub parts_below : PartsAreBelow
parts_below k ks e = parts_all (IsBelow k) k ks e (λ q is.
    subst (λ (x : Key). (q.level ≡ 0 → IsBelow x (key.Tile (tile_below q))) ×
    (0 < q.level → All (λ y. IsBelow x (key.Sum y)) (sums_below q)))
    (sym is) (λ _. tile_is_below q, sums_are_below q))

pub grids_same : (s : Scene) (qs : List SumKey) →
    map grid_in (map (meaning s) (map key.Sum qs)) ≡ map (λ q. (sum_meaning s.shows q).sums) qs
unfolding meaning
grids_same s [] = refl
grids_same s (q ∷ qs) = ap (λ gs. (sum_meaning s.shows q).sums ∷ gs) (grids_same s qs)

derived_by : (s : Scene) (k : SumKey) (b : Bool) →
    (if b then tile_sums (picture_in (slice_get (map (meaning s) (parts_by k b)) 0))
    (tile_of (dim_of (named s.shows k.name)) (tile_below k)) k (places_in (dim_of (named s.shows k.name)) k)
    else fold merged (no_sums (dim_of (named s.shows k.name)) (named s.shows k.name).channels k)
    (map grid_in (map (meaning s) (parts_by k b))))
    ≡ (if b then tile_sums (tile_meaning s.shows (tile_below k)).raster (tile_of (dim_of (named s.shows k.name)) (tile_below k)) k
    (places_in (dim_of (named s.shows k.name)) k)
    else fold merged (no_sums (dim_of (named s.shows k.name)) (named s.shows k.name).channels k)
    (map (λ q. (sum_meaning s.shows q).sums) (sums_below k)))
unfolding meaning
derived_by s k true = refl
derived_by s k false = ap (fold merged (no_sums (dim_of (named s.shows k.name)) (named s.shows k.name).channels k))
    (grids_same s (sums_below k))

derived_sum : (s : Scene) (k : SumKey) → IsProper s → Fits s (key.Sum k) →
    derived s (key.Sum k) (map (meaning s) (parts_by k (k.level == 0))) ≡ meaning s (key.Sum k)
unfolding derived meaning Fits
derived_sum s k proper h =
    let same = picture_is s.shows k.name h.picture h.known in
    let has : HasPicture s.shows k.name (shape_of h.picture) = record { known = h.known ∙ ap Some (sym same); shape = ap shape_of same } in
    let source : IsSource (named s.shows k.name) = subst IsSource (sym same) (proper.sources k.name h.picture h.known) in
    ap (λ (g : Grid). value.Sum (record { sums = g })) (derived_by s k (k.level == 0))
    ∙ ap value.Sum (derived_is s.shows (shape_of h.picture) k has source h.fits)

pub parts_make_meaning : PartsMakeMeaning
unfolding parts_of
parts_make_meaning s (key.Tile k) ks proper e h = absurd (none-some ks e)
parts_make_meaning s (key.Sum k) ks proper e h =
    subst (λ (xs : List Key). derived s (key.Sum k) (map (meaning s) xs) ≡ meaning s (key.Sum k))
    (same_Some (parts_by k (k.level == 0)) ks e) (derived_sum s k proper h)

pub eq_same : (n : ℕ) → nat_eq n n ≡ true
eq_same n = eq-eqb n n refl

pub key_same : (k : Key) → key_eq k k ≡ true
unfolding key_eq
key_same (key.Tile k) = and_from _ _ ((bytes_eq-Decides k.name k.name).1 refl)
    (and_from _ _ (eq_same k.edge) (and_from _ _ (eq_same k.tx) (eq_same k.ty)))
key_same (key.Sum k) =
    and_from _ _ ((bytes_eq-Decides k.name k.name).1 refl) (and_from _ _ (eq_same k.edge)
    (and_from _ _ (and_from _ _ (eq_same k.rect.x) (and_from _ _ (eq_same k.rect.y) (and_from _ _ (eq_same k.rect.w) (eq_same k.rect.h))))
    (and_from _ _ (and_from _ _ (eq_same k.size.w) (eq_same k.size.h))
    (and_from _ _ (eq_same k.level) (and_from _ _ (eq_same k.bx) (eq_same k.by))))))

pub keys_are_told : KeysAreTold
keys_are_told a b = (same_key a b, λ e. subst (λ x. key_eq a x ≡ true) e (key_same a))
