-- Bands cut a picture, and each is known by its place among them.
use Rattle.std.proofs.Common.{◌≡◌, ℕ, zero, suc, ◌+◌, ◌-◌, ◌*◌, ◌<◌, ◌≤◌, min}
use Rattle.std.proofs.Common.{List, [], ◌∷◌, ◌++◌, All, get_or, length, map, refl, sym}
use Rattle.std.proofs.Common.{subst, ap, ◌∙◌, arith}
use Rattle.std.specs.Int.{div_ceil}
use Rattle.std.specs.List.{range_with_len, flat_map}
use Rattle.std.proofs.lemmas.Grind.{flat_map-append}
use Rattle.std.proofs.lemmas.List.{append-nil, get_or-map, length-map}
use Rattle.std.proofs.lemmas.List.Elements.{All-nil, All-cons, All-head, All-tail, All-push}
use Rattle.std.proofs.lemmas.List.Folds.{flat_map-map}
use Rattle.std.proofs.lemmas.List.FromFn.{get_or-map-range_with_len, length-map-range_with_len, map-range_with_len_more}
use Rattle.iiif_pixel.specs.Laws.{rows_from, AllRows, RowsAfterRows}
use Rattle.iiif_pixel.specs.Operations.{crop}
use Rattle.iiif_pixel.specs.Picture.{Picture, IsWhole, dim_of, samples_of}
use Rattle.iiif_pixel.specs.TurnPlaces.{turned_dim}
use Rattle.iiif_pixel.specs.declared.geometry.Dim.{Dim}
use Rattle.iiif_pixel.specs.declared.geometry.Rect.{Rect}
use Rattle.iiif_area.proofs.WeightLaws.{div_ceil-times}
use Rattle.iiif_planner.proofs.Meeting.{last_met}
use Rattle.iiif_canonical.specs.declared.resolved.Resolved.{Resolved}
use Rattle.iiif_keys.proofs.Cuts.{alike}
use Rattle.iiif_planner.specs.declared.plans.Plan.{Plan}
use Rattle.iiif_planner.specs.declared.plans.Plan.TheVariants.{Copy, Grow, Sum}
use Rattle.iiif_planner.specs.Bands.{band_rect, ListsItems, ListsThose}
use Rattle.iiif_planner.specs.BandLaws.{BandsAreEach, BandsAreLow, BandsCutPictures, IsLow}
use Rattle.iiif_planner.specs.declared.banding.Band.{Band}
use Rattle.iiif_planner.proofs.Runs.{places_from-same}

-- the first m bands have the first rows
module _ (after : RowsAfterRows) (p : Picture) (d : Dim) (rows : ℕ) (some : 0 < rows) (same : dim_of p ≡ d) where
  abbrev piece : Rect → List ℕ
  piece r = (crop p r).samples

  next_rows : (m : ℕ) → m * rows < d.h →
      piece (rows_from p 0 (m * rows)) ++ piece (band_rect d rows m) ≡ piece (rows_from p 0 (min ((m + 1) * rows) d.h))
  next_rows m above =
      let k = min rows (d.h - m * rows) in
      let width : d.w ≡ p.width = sym (ap (λ (e : Dim). e.w) same) in
      let sum : m * rows + k ≡ min ((m + 1) * rows) d.h = omega arith in
      let down : m * rows ≡ 0 + m * rows = omega arith in
      let here : piece (band_rect d rows m) ≡ piece (rows_from p (0 + m * rows) k) =
      ap (λ w. piece (record { x = 0; y = m * rows; w = w; h = k })) width ∙ ap (λ y. piece (rows_from p y k)) down in
      ap (λ xs. piece (rows_from p 0 (m * rows)) ++ xs) here
      ∙ sym (after p 0 (m * rows) k)
      ∙ ap (λ n. piece (rows_from p 0 n)) sum

  none_cut : [] ≡ piece (rows_from p 0 0)
  unfolding samples_of
  none_cut = refl

  first_bands : (m : ℕ) → m ≤ div_ceil d.h rows →
      flat_map piece (map (band_rect d rows) (range_with_len 0 m)) ≡ piece (rows_from p 0 (min (m * rows) d.h))
  first_bands zero within =
      let none : 0 ≡ min (0 * rows) d.h = omega arith in
      none_cut ∙ ap (λ n. piece (rows_from p 0 n)) none
  first_bands (suc m) within =
      let f = band_rect d rows in
      let above = last_met rows d.h m some (omega arith) in
      let whole : min (m * rows) d.h ≡ m * rows = omega arith in
      let more : suc m ≡ m + 1 = omega arith in
      ap (λ n. flat_map piece (map f (range_with_len 0 n))) more
      ∙ ap (flat_map piece) (map-range_with_len_more f 0 m m (omega arith))
      ∙ flat_map-append piece (map f (range_with_len 0 m)) (f m ∷ [])
      ∙ ap (λ xs. xs ++ (piece (f m) ++ [])) (first_bands m (omega arith))
      ∙ ap (λ xs. piece (rows_from p 0 (min (m * rows) d.h)) ++ xs) (append-nil (piece (f m)))
      ∙ ap (λ n. piece (rows_from p 0 n) ++ piece (f m)) whole
      ∙ next_rows m above
      ∙ ap (λ n. piece (rows_from p 0 (min (n * rows) d.h))) (sym more)

  all_bands : AllRows → IsWhole p → flat_map piece (map (band_rect d rows) (range_with_len 0 (div_ceil d.h rows))) ≡ p.samples
  all_bands all whole =
      let n = div_ceil d.h rows in
      let end : min (n * rows) d.h ≡ p.height = let e = div_ceil-times d.h rows some in let h : d.h ≡ p.height =
      sym (ap (λ (e : Dim). e.h) same) in omega (arith, e, h) in
      first_bands n (omega arith) ∙ ap (λ m. piece (rows_from p 0 m)) end ∙ ap (λ (q : Picture). q.samples) (all p whole)

pub bands_cut : RowsAfterRows → AllRows → BandsCutPictures
bands_cut after all r plan rows bs p some are whole same =
    let d = turned_dim r.turn r.size in
    let piece : Rect → List ℕ = λ q. (crop p q).samples in
    let rect : Band → Rect = λ b. b.rect in
    sym (flat_map-map piece rect bs) ∙ ap (flat_map piece) are.rects ∙ all_bands after p d rows some same all whole

low : (d : Dim) (rows m n : ℕ) → 0 < rows → n ≡ div_ceil d.h rows → m ≤ n → All (IsLow d rows) (map (band_rect d rows) (range_with_len 0 m))
low d rows zero n some is within = All-nil (IsLow d rows)
low d rows (suc m) n some is within =
    let f = band_rect d rows in
    let more : suc m ≡ m + 1 = omega arith in
    let above = last_met rows d.h m some (omega arith) in
    let here : IsLow d rows (f m) = record {
      inside = record { columns = omega arith; rows = omega arith };
      columns = refl;
      some =
          omega arith;
      few = omega arith;
    } in
    subst (λ (rs : List Rect). All (IsLow d rows) rs)
    (sym (map-range_with_len_more f 0 m m (omega arith)) ∙ ap (λ k. map f (range_with_len 0 k)) (sym more))
    (All-push (IsLow d rows) (map f (range_with_len 0 m)) (f m) (low d rows m n some is (omega arith)) here)

of_rects : (P : Rect → Type 0) (bs : List Band) → All P (map (λ b. b.rect) bs) → All (λ b. P b.rect) bs
of_rects P [] h = All-nil (λ (b : Band). P b.rect)
of_rects P (b ∷ bs) h =
    let rect : Band → Rect = λ q. q.rect in
    All-cons (λ (q : Band). P q.rect) b bs (All-head P b.rect (map rect bs) h) (of_rects P bs (All-tail P b.rect (map rect bs) h))

pub bands_are_low : BandsAreLow
bands_are_low r plan rows bs some are =
    let d = turned_dim r.turn r.size in
    of_rects (IsLow d rows) bs
    (subst (λ (rs : List Rect). All (IsLow d rows) rs) (sym are.rects)
    (low d rows (div_ceil d.h rows) (div_ceil d.h rows) some refl (omega arith)))

-- A list of just those elements is the only one.
those_once : {K : Type 0} (P : K → Type 0) (keys : List K) (xs ys : List ℕ) → ListsThose P keys xs → ListsThose P keys ys → xs ≡ ys
those_once P keys xs ys a b =
    let both : (k : _) → a.0 k ≡ b.0 k = λ k. alike (a.0 k) (b.0 k) (λ t. (b.1 k).1 ((a.1 k).0 t)) (λ t. (a.1 k).1 ((b.1 k).0 t)) in
    a.2 ∙ places_from-same 0 a.0 b.0 keys both ∙ sym b.2

items_once : (r : Resolved) (plan : Plan) (rect : Rect) (xs ys : List ℕ) → ListsItems r plan rect xs → ListsItems r plan rect ys → xs ≡ ys
items_once r (Copy keys) rect xs ys a b = those_once _ keys.items xs ys a b
items_once r (Grow keys) rect xs ys a b = those_once _ keys.items xs ys a b
items_once r (Sum keys) rect xs ys a b = those_once _ keys.items xs ys a b

-- band i, cut alone, is band i of all
pub band_is_each : BandsAreEach
band_is_each r plan rows i bs b are within is =
    let d = turned_dim r.turn r.size in
    let f = band_rect d rows in
    let n = div_ceil d.h rows in
    let rect : Band → Rect = λ q. q.rect in
    let x = get_or bs i b in
    let len : length bs ≡ n = sym (length-map bs rect) ∙ ap length are.rects ∙ length-map-range_with_len f 0 n in
    let same : x.rect ≡ b.rect = sym (get_or-map rect bs i b b.rect within) ∙ ap (λ rs. get_or rs i b.rect) are.rects
    ∙ get_or-map-range_with_len f 0 n i i b.rect (omega (arith, len, within)) (omega arith) ∙ sym is.rect in
    let lists : ListsItems r plan x.rect x.items.items = are.items i b within in
    let here : ListsItems r plan b.rect x.items.items = subst (λ (q : Rect). ListsItems r plan q x.items.items) same lists in
    (same, items_once r plan b.rect x.items.items b.items.items here is.items)
