-- What is kept beside the bands of an image.
use Rattle.std.proofs.Common.{◌≡◌, ℕ, zero, suc, ◌*◌, ◌-◌, ◌<◌, ◌≤◌, ◌⊎◌, min, max, List, [], ◌∷◌, length}
use Rattle.std.proofs.Common.{rules, inl, inr, ⊎_elim, refl, sym, ap, subst, ◌∙◌, arith}
use Rattle.std.proofs.lemmas.Bool.{cases_lt}
use Rattle.iiif_pixel.specs.declared.geometry.Rect.{Rect}
use Rattle.iiif_keys.specs.declared.keys.SumKey.{SumKey}
use Rattle.iiif_keys.specs.declared.values.SumVal.{SumVal}
use Rattle.iiif_planner.specs.Bands.{band_rect}
use Rattle.iiif_planner.specs.declared.banding.Band.{Band}
use Rattle.iiif_planner.specs.declared.plans.Plan.{Plan}
use Rattle.iiif_planner.specs.declared.plans.Plan.TheVariants.{Copy, Grow, Sum}
use Rattle.iiif_assemble.specs.Jobs.{IsBandOf}
use Rattle.iiif_assemble.specs.Kept.{kept_len, AreFew, AreKept, KeepsOwn}
use Rattle.iiif_assemble.specs.declared.job.Job.{Job}
use Rattle.iiif_assemble.specs.declared.kept.KeptSum.{KeptSum}
use Rattle.iiif_delivery.specs.Code.{HasKept}
use Rattle.iiif_delivery.specs.Delivery.{result_dim, IsKeptInBands, KeepsNone}

cases_zero : (n : ℕ) → (n ≡ 0) ⊎ (0 < n)
cases_zero zero = inl refl
cases_zero (suc n) = inr (omega arith)

cases_max : (a b m : ℕ) → m ≡ max a b → (m ≡ a) ⊎ (m ≡ b)
cases_max a b m is = ⊎_elim (λ (l : a < b). inr (omega (arith, l, is))) (λ (l : b ≤ a). inl (omega (arith, l, is))) (cases_lt a b)

no_sums : (sums : List KeptSum) → length sums ≡ 0 → kept_len sums ≡ 0
no_sums [] none = refl
no_sums (s ∷ sums) none = absurd (omega (arith, none))

none_kept : (plan : Plan) → KeepsNone plan 0
none_kept (Copy keys) = refl
none_kept (Grow keys) = refl
none_kept (Sum keys) = tt

none_are : (means : SumKey → SumVal → Type 0) → AreKept means []
none_are means = search rules

-- before the first band
pub kept_first : (j : Job) (means : SumKey → SumVal → Type 0) (rows y : ℕ) (sums : List KeptSum) → y ≡ 0 → sums ≡ [] →
    HasKept j means rows sums 0 y
kept_first j means rows y sums none is = record {
  before = λ _. is;
  first = λ some. absurd (omega (arith, none, some));
  most = ([], none_are means, omega arith, refl);
  none = none_kept j.plan;
  still = subst (λ (s : List KeptSum). KeepsNone j.plan (length s)) (sym is) (none_kept j.plan);
}

none_more : (plan : Plan) (items : List ℕ) (old new : List KeptSum) (kept count most : ℕ) → KeepsOwn plan items old new →
    KeepsNone plan kept → KeepsNone plan (length old) → count ≡ kept_len new → most ≡ max kept count →
    KeepsNone plan most × KeepsNone plan (length new)
none_more (Copy keys) items old new kept count most same none still is greater =
    let empty : length new ≡ 0 = ap length same ∙ still in
    (omega (arith, none, is, greater, no_sums new empty), empty)
none_more (Grow keys) items old new kept count most same none still is greater =
    let empty : length new ≡ 0 = ap length same ∙ still in
    (omega (arith, none, is, greater, no_sums new empty), empty)
none_more (Sum keys) items old new kept count most own none still is greater = (tt, tt)

-- a band more
pub kept_more : (j : Job) (means : SumKey → SumVal → Type 0) (rows i : ℕ) (old new : List KeptSum) (kept count most y y2 : ℕ) →
    HasKept j means rows old kept y →
    ((b : Band) × (b.rect ≡ band_rect (result_dim j) rows i) × IsBandOf j b × KeepsOwn j.plan b.items.items old new) →
    AreKept means new → AreFew new → count ≡ kept_len new → most ≡ max kept count → (y ≡ 0 → i * rows ≡ 0) → 0 < y2 →
    HasKept j means rows new most y2
kept_more j means rows i old new kept count most y y2 has own are few is greater begins some =
    let d = result_dim j in
    let b = own.0 in
    let none = none_more j.plan b.items.items old new kept count most own.3 has.none has.still is greater in
    record {
      before = λ at_first. absurd (omega (arith, at_first, some));
      first = λ _. elim (cases_zero y) [
        | inl at_first ↦
            let nothing : 0 * rows ≡ 0 = omega arith in
            let here : band_rect d rows i ≡ band_rect d rows 0 =
            ap (λ (k : ℕ). let r : Rect = record { x = 0; y = k; w = d.w; h = min rows (d.h - k) } in r) (begins at_first ∙ sym nothing) in
            let first = subst (λ (s : List KeptSum). KeepsOwn j.plan b.items.items s new) (has.before at_first) own.3 in
            (b, own.1 ∙ here, own.2, (new, are, first, omega (arith, is, greater)))
        | inr more ↦
            let first = has.first more in
            let those = first.3 in
            (first.0, first.1, first.2, (those.0, those.1, those.2, (let l = those.3 in omega (arith, l, greater))))
      ];
      most = elim (cases_max kept count most greater) [
        | inl same ↦ let those = has.most in (those.0, those.1, those.2, same ∙ those.3)
        | inr same ↦ (new, are, few, same ∙ is)
      ];
      none = none.0;
      still = none.1;
    }

-- all bands
pub kept_done : (j : Job) (means : SumKey → SumVal → Type 0) (rows : ℕ) (sums : List KeptSum) (kept y : ℕ) → 0 < (result_dim j).h →
    y ≡ (result_dim j).h → HasKept j means rows sums kept y → IsKeptInBands j means rows kept
kept_done j means rows sums kept y some end has = record { first = has.first (omega (arith, end, some)); most = has.most; none = has.none }
