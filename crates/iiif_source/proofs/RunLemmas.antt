-- Lemmas for the loop that reads runs one by one.
use Rattle.std.proofs.Common.{◌≡◌, ℕ, ◌+◌, ◌*◌, ◌-◌, ◌<◌, ◌≤◌, List, length, get_or, take, drop, ap, ◌∙◌, inl, inr, arith}
use Rattle.std.proofs.lemmas.Bool.{cases_lt}
use Rattle.std.proofs.lemmas.Nat.{row_fits, mul-le}
use Rattle.std.proofs.lemmas.List.{get_or-take, get_or-drop, length-take, length-drop}
use borrow.Rule.Slice.PartMut.{put_mid, mid_of}
use Rattle.iiif_pixel.proofs.Splice.{get_or-put_inside, get_or-put_below}

-- one run more: the buffer holds the run that was read, and those before it
pub run_more : (bytes buffer new : List ℕ) (at stride run rows j m : ℕ) → length buffer ≡ rows * run → j < rows → m ≡ run →
    at + (rows - 1) * stride + run ≤ length bytes
    → new ≡ take (length (mid_of (j * run) m buffer)) (drop (at + j * stride) bytes)
    → ((k i : ℕ) → k < j → i < run → get_or buffer (k * run + i) 0 ≡ get_or bytes (at + k * stride + i) 0)
    → (k i : ℕ) → k < j + 1 → i < run → get_or (put_mid (j * run) m buffer new) (k * run + i) 0 ≡ get_or bytes (at + k * stride + i) 0
run_more bytes buffer new at stride run rows j m len below m-is in_file new-is so_far k i lt within =
    let fits : j * run + run ≤ rows * run = row_fits j run rows run below (omega arith) in
    let far : j * stride ≤ (rows - 1) * stride = mul-le j stride (rows - 1) stride (omega arith) (omega arith) in
    let middle : length (mid_of (j * run) m buffer) ≡ run =
    omega (arith, length-take m (drop (j * run) buffer), length-drop (j * run) buffer, len, fits, m-is) in
    let size : length new ≡ run = ap length new-is ∙
    omega (
      arith,
      length-take (length (mid_of (j * run) m buffer)) (drop (at + j * stride) bytes),
      length-drop (at + j * stride) bytes,
      middle,
      far,
    ) in
    elim (cases_lt k j) [
      | inl before ↦ get_or-put_below (j * run) m buffer new (k * run + i) (omega (arith, fits))
          (omega (arith, row_fits k run j run before (omega arith))) ∙ so_far k i before within
      | inr last ↦
          let same : k ≡ j = omega arith in
          rw same (get_or-put_inside (j * run) m buffer new i (omega (arith, fits)) (omega (arith, size))
          ∙ ap (λ (xs : List ℕ). get_or xs i 0) new-is ∙
          get_or-take (length (mid_of (j * run) m buffer)) (drop (at + j * stride) bytes) i 0 (omega (arith, middle)) ∙
          get_or-drop (at + j * stride) bytes i 0)
    ]

-- contiguous runs: one read gives all
pub runs_together : (bytes new : List ℕ) (at stride run rows n j i : ℕ) → run ≡ stride → n ≡ rows * run → new ≡ take n (drop at bytes) →
    j < rows → i < run → get_or new (j * run + i) 0 ≡ get_or bytes (at + j * stride + i) 0
runs_together bytes new at stride run rows n j i same n-is new-is lt within =
    let fits : j * run + run ≤ rows * run = row_fits j run rows run lt (omega arith) in
    let place : at + (j * run + i) ≡ at + j * stride + i = rw same (omega arith) in
    ap (λ (xs : List ℕ). get_or xs (j * run + i) 0) new-is ∙ get_or-take n (drop at bytes) (j * run + i) 0 (omega (arith, n-is, fits)) ∙
    get_or-drop at bytes (j * run + i) 0 ∙ ap (λ (k : ℕ). get_or bytes k 0) place
