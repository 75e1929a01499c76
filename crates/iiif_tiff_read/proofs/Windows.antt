-- Rows of samples that are written into their window.
use Rattle.std.proofs.Common.{◌≡◌, ℕ, ◌+◌, ◌*◌, ◌<◌, ◌≤◌, ◌⊎◌, List, length, get_or, sym, ◌∙◌, inl, inr, arith}
use Rattle.std.proofs.lemmas.Bool.{cases_lt}
use Rattle.std.proofs.lemmas.Nat.{row_fits}
use borrow.Rule.Slice.PartMut.{put_mid}
use Rattle.iiif_tiff_read.specs.declared.rows.Window.{Window}
use Rattle.iiif_tiff_read.specs.Code.{FitsWindow, HoldsRows, KeepsRest}
use Rattle.iiif_pixel.proofs.Splice.{get_or-put_inside, get_or-put_below, get_or-put_above}

-- A row that is written into the window holds its samples.
pub row_held : (f : ℕ → ℕ → ℕ) (v : Window) (n j m : ℕ) (old row : List ℕ) → FitsWindow v n → length old ≡ n → j < v.rows →
    length row ≡ v.columns
    → ((i : ℕ) → i < v.columns → get_or row i 0 ≡ f j i) → HoldsRows f v j old →
    HoldsRows f v (j + 1) (put_mid ((v.top + j) * v.width + v.left) m old row)
row_held f v n j m old row fits len below size is so_far k i lt within =
    let start : (v.top + j) * v.width + v.width ≤ (v.top + v.rows) * v.width =
    row_fits (v.top + j) v.width (v.top + v.rows) v.width (omega arith) (omega arith) in
    let room : (v.top + j) * v.width + v.left ≤ length old = omega (arith, len, fits.rows, fits.columns, start) in
    elim (cases_lt k j) [
      | inl before ↦
          get_or-put_below ((v.top + j) * v.width + v.left) m old row ((v.top + k) * v.width + (v.left + i)) room
          (omega (arith, fits.columns, row_fits (v.top + k) v.width (v.top + j) v.width (omega arith) (omega arith))) ∙
          so_far k i before within
      | inr last ↦
          let same : k ≡ j = omega arith in
          let place : (v.top + j) * v.width + (v.left + i) ≡ (v.top + j) * v.width + v.left + i = omega arith in
          rw (same, place) (get_or-put_inside ((v.top + j) * v.width + v.left) m old row i room (omega (arith, size)) ∙ is i within)
    ]

outside_below : (v : Window) (j k q : ℕ) → (k < v.top) ⊎ (v.top + (j + 1) ≤ k) ⊎ (q < v.left) ⊎ (v.left + v.columns ≤ q) → (k < v.top) ⊎
    (v.top + j ≤ k) ⊎ (q < v.left) ⊎ (v.left + v.columns ≤ q)
outside_below v j k q (inl a) = inl a
outside_below v j k q (inr (inl b)) = inr (inl (omega arith))
outside_below v j k q (inr (inr c)) = inr (inr c)

-- a place outside the row comes before it or after it
row_apart : (v : Window) (j k q : ℕ) → v.left + v.columns ≤ v.width → q < v.width → (k < v.top) ⊎ (v.top + (j + 1) ≤ k) ⊎ (q < v.left) ⊎
    (v.left + v.columns ≤ q)
    → (k * v.width + q < (v.top + j) * v.width + v.left) ⊎ ((v.top + j) * v.width + v.left + v.columns ≤ k * v.width + q)
row_apart v j k q fits lq out = elim (cases_lt k (v.top + j)) [
  | inl before ↦ inl (omega (arith, row_fits k v.width (v.top + j) v.width before (omega arith)))
  | inr from ↦ elim (cases_lt (v.top + j) k) [
    | inl after ↦ inr (omega (arith, row_fits (v.top + j) v.width k v.width after (omega arith)))
    | inr to ↦ let same : k ≡ v.top + j = omega arith in at_row same out
  ]
]
  where
    at_row : k ≡ v.top + j → (k < v.top) ⊎ (v.top + (j + 1) ≤ k) ⊎ (q < v.left) ⊎ (v.left + v.columns ≤ q) →
        (k * v.width + q < (v.top + j) * v.width + v.left) ⊎ ((v.top + j) * v.width + v.left + v.columns ≤ k * v.width + q)
    at_row same (inl a) = absurd (omega (arith, same))
    at_row same (inr (inl b)) = absurd (omega (arith, same))
    at_row same (inr (inr (inl c))) = inl (rw same (omega arith))
    at_row same (inr (inr (inr d))) = inr (rw same (omega arith))

-- A row that is written into the window leaves the rest as it was.
pub row_rest : (v : Window) (n j m : ℕ) (first old row : List ℕ) → FitsWindow v n → length old ≡ n → j < v.rows → length row ≡ v.columns →
    m ≡ v.columns
    → KeepsRest v j first old → KeepsRest v (j + 1) first (put_mid ((v.top + j) * v.width + v.left) m old row)
row_rest v n j m first old row fits len below size m-is so_far k q lq out =
    let start : (v.top + j) * v.width + v.width ≤ (v.top + v.rows) * v.width =
    row_fits (v.top + j) v.width (v.top + v.rows) v.width (omega arith) (omega arith) in
    let room : (v.top + j) * v.width + v.left ≤ length old = omega (arith, len, fits.rows, fits.columns, start) in
    elim (row_apart v j k q fits.columns lq out) [
      | inl before ↦ get_or-put_below ((v.top + j) * v.width + v.left) m old row (k * v.width + q) room before ∙
          so_far k q lq (outside_below v j k q out)
      | inr behind ↦ get_or-put_above ((v.top + j) * v.width + v.left) m old row (k * v.width + q) room (size ∙ sym m-is)
          (omega (arith, m-is)) ∙ so_far k q lq (outside_below v j k q out)
    ]
