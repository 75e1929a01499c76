-- Spans: the bytes that samples of a row need.
--   span_*, runs_in   a span within its row, and in each row a run of the file
--   *_read            samples of bytes that were read are those of the file
--   whole_*           rows as wide as the rectangle
use Rattle.std.proofs.Common.{◌≡◌, ◌≢◌, ℕ, ◌+◌, ◌*◌, ◌-◌, ◌/◌, ◌%◌, ◌^◌, ◌<◌, ◌≤◌, ◌⊎◌, List, length, get_or, take, drop, sym, ap, ◌∙◌}
use Rattle.std.proofs.Common.{inl, inr, arith, ◌==◌}
use Rattle.std.specs.Int.{div_ceil}
use Rattle.std.proofs.lemmas.Bool.{cases_Bool, eqb-true, eqb-false}
use Rattle.std.proofs.lemmas.Nat.{row_fits, mul-le}
use Rattle.std.proofs.lemmas.List.{get_or-take, get_or-drop}
use borrow.Rule.Slice.PartMut.{put_mid}
use Rattle.iiif_source.specs.Runs.{AreIn}
use Rattle.iiif_tiff.specs.Tiff.{stored}
use Rattle.iiif_tiff_read.specs.declared.rows.Window.{Window}
use Rattle.iiif_tiff_read.specs.declared.rows.Span.{Span}
use Rattle.iiif_tiff_read.specs.Code.{IsSpan, FitsWindow, HoldsRows, KeepsRest}
use Rattle.iiif_pixel.proofs.Splice.{get_or-put_inside, get_or-put_below, get_or-put_above}

-- A unit has eight bits or one.
pub eight_or_one : (bits : ℕ) → (bits ≢ 8 → bits ≡ 1) → (bits ≡ 8) ⊎ (bits ≡ 1)
eight_or_one bits h = elim (cases_Bool (bits == 8)) [
  | inl same ↦ inl (eqb-true bits 8 same)
  | inr other ↦ inr (h (eqb-false bits 8 other))
]

-- A span ends within its row.
pub span_in_row : (bits first n stride : ℕ) (span : Span) → (bits ≢ 8 → bits ≡ 1) → IsSpan bits first n span →
    div_ceil ((first + n) * bits) 8 ≤ stride → span.start + span.len ≤ stride
span_in_row bits first n stride span h is le = elim (eight_or_one bits h) [
  | inl eight ↦
      let fits : div_ceil ((first + n) * 8) 8 ≤ stride = rw eight at le in
      let whole = is.whole eight in
      omega (arith, fits, whole.0, whole.1)
  | inr one ↦
      let fits : div_ceil ((first + n) * 1) 8 ≤ stride = rw one at le in
      let packed = is.packed one in
      omega (arith, fits, packed.0, packed.1)
]

-- A span skips fewer samples than a byte has.
pub span_skip : (bits first n : ℕ) (span : Span) → (bits ≢ 8 → bits ≡ 1) → IsSpan bits first n span → span.skip < 8
span_skip bits first n span h is = elim (eight_or_one bits h) [
  | inl eight ↦ omega (arith, (is.whole eight).2)
  | inr one ↦ omega (arith, (is.packed one).2)
]

-- A span has the bits of its samples.
pub span_room : (bits first n : ℕ) (span : Span) → (bits ≢ 8 → bits ≡ 1) → IsSpan bits first n span → (span.skip + n) * bits ≤ 8 * span.len
span_room bits first n span h is = elim (eight_or_one bits h) [
  | inl eight ↦
      let whole = is.whole eight in
      rw (eight, whole.1, whole.2) (omega arith)
  | inr one ↦
      let packed = is.packed one in
      rw (one, packed.1, packed.2) (omega arith)
]

-- A span of each row is a run of bytes in the file.
pub runs_in : (at stride count n : ℕ) (span : Span) → at ≤ 2 ^ 60 → stride ≤ 2 ^ 23 → 0 < count → span.start + span.len ≤ stride →
    at + count * stride ≤ n
    → AreIn n (record { at = at + span.start; stride = stride; len = span.len; count = count })
runs_in at stride count n span at-le stride-le some in-row fits =
    let last : (count - 1) * stride + stride ≤ count * stride = row_fits (count - 1) stride count stride (omega arith) (omega arith) in
    record { small = (omega arith, stride-le, omega arith); some = some; within = omega arith }

-- A sample of a row that was read is that of the row in the file.
pub row_read : (bits first n j i row stride : ℕ) (span : Span) (bytes read : List ℕ) → (bits ≢ 8 → bits ≡ 1) → IsSpan bits first n span →
    i < n
    → ((b : ℕ) → b < span.len → get_or read (j * span.len + b) 0 ≡ get_or bytes (row + span.start + j * stride + b) 0)
    → stored bits (take span.len (drop (j * span.len) read)) 0 (span.skip + i) ≡ stored bits bytes (row + j * stride) (first + i)
row_read bits first n j i row stride span bytes read h is lt reads =
    let byte : (b : ℕ) → b < span.len → get_or (take span.len (drop (j * span.len) read)) b 0 ≡ get_or bytes
    (row + span.start + j * stride + b) 0
    = λ b within. get_or-take span.len (drop (j * span.len) read) b 0 within ∙ get_or-drop (j * span.len) read b 0 ∙ reads b within in
    elim (eight_or_one bits h) [
      | inl eight ↦
          let whole = is.whole eight in
          let here : 0 + (span.skip + i) ≡ i = omega (arith, whole.2) in
          let there : row + span.start + j * stride + i ≡ row + j * stride + (first + i) = omega (arith, whole.0) in
          rw (eight, here, ← there) (byte i (omega (arith, whole.1)))
      | inr one ↦
          let packed = is.packed one in
          let here : 0 + (span.skip + i) / 8 ≡ (first + i) / 8 - first / 8 = omega (arith, packed.2) in
          let within : (first + i) / 8 - first / 8 < span.len = omega (arith, packed.1) in
          let there : row + span.start + j * stride + ((first + i) / 8 - first / 8) ≡ row + j * stride + (first + i) / 8 =
          omega (arith, packed.0) in
          let bit : (span.skip + i) % 8 ≡ (first + i) % 8 = omega (arith, packed.2) in
          rw (one, here, bit, ← there) (ap (λ (v : ℕ). 255 * (v / 2 ^ (7 - (first + i) % 8) % 2))
          (byte ((first + i) / 8 - first / 8) within))
    ]

-- Samples that are unpacked from the bytes read are those of the rows in the file.
pub window_read : (bits first row stride : ℕ) (span : Span) (v : Window) (bytes read samples : List ℕ) → (bits ≢ 8 → bits ≡ 1) →
    IsSpan bits first v.columns span
    → ((j b : ℕ) → j < v.rows → b < span.len → get_or read (j * span.len + b) 0 ≡ get_or bytes (row + span.start + j * stride + b) 0)
    → HoldsRows (λ j i. stored bits (take span.len (drop (j * span.len) read)) 0 (span.skip + i)) v v.rows samples
    → HoldsRows (λ j i. stored bits bytes (row + j * stride) (first + i)) v v.rows samples
window_read bits first row stride span v bytes read samples h is reads held j i lt within =
    held j i lt within ∙ row_read bits first v.columns j i row stride span bytes read h is within (λ b below. reads j b lt below)

-- Rows as wide as the rectangle, read into its samples, are those of the file.
pub whole_rows : (bits first row stride m n : ℕ) (span : Span) (v : Window) (bytes old new : List ℕ) → bits ≡ 8 →
    IsSpan bits first v.columns span → FitsWindow v n → length old ≡ n → v.columns ≡ v.width → length new ≡ v.rows * v.width
    → ((j b : ℕ) → j < v.rows → b < span.len → get_or new (j * span.len + b) 0 ≡ get_or bytes (row + span.start + j * stride + b) 0)
    → HoldsRows (λ j i. stored bits bytes (row + j * stride) (first + i)) v v.rows (put_mid (v.top * v.width) m old new)
whole_rows bits first row stride m n span v bytes old new eight is fits len wide size reads j i lt within =
    let whole = is.whole eight in
    let none : v.left ≡ 0 = omega (arith, fits.columns) in
    let run : span.len ≡ v.width = whole.1 ∙ wide in
    let room : v.top * v.width ≤ length old = omega (arith, fits.rows, len) in
    let at : (v.top + j) * v.width + (v.left + i) ≡ v.top * v.width + (j * span.len + i) = rw (none, run) (omega arith) in
    let below : j * span.len + i < length new = rw run (omega (arith, size, row_fits j v.width v.rows v.width lt (omega arith))) in
    let there : row + span.start + j * stride + i ≡ row + j * stride + (first + i) = omega (arith, whole.0) in
    rw eight (ap (λ (k : ℕ). get_or (put_mid (v.top * v.width) m old new) k 0) at ∙
    get_or-put_inside (v.top * v.width) m old new (j * span.len + i) room below
    ∙ reads j i lt (omega (arith, run)) ∙ ap (λ (k : ℕ). get_or bytes k 0) there)

-- Rows as wide as the rectangle leave its other rows as they were.
pub whole_rest : (m n : ℕ) (v : Window) (old new : List ℕ) → FitsWindow v n → length old ≡ n → v.columns ≡ v.width →
    length new ≡ v.rows * v.width → m ≡ v.rows * v.width
    → KeepsRest v v.rows old (put_mid (v.top * v.width) m old new)
whole_rest m n v old new fits len wide size m-is k q lq out =
    let room : v.top * v.width ≤ length old = omega (arith, fits.rows, len) in
    rest out room
  where
    rest : (k < v.top) ⊎ (v.top + v.rows ≤ k) ⊎ (q < v.left) ⊎ (v.left + v.columns ≤ q) → v.top * v.width ≤ length old
        → get_or (put_mid (v.top * v.width) m old new) (k * v.width + q) 0 ≡ get_or old (k * v.width + q) 0
    rest (inl a) room = get_or-put_below (v.top * v.width) m old new (k * v.width + q) room
        (omega (arith, row_fits k v.width v.top v.width a (omega arith)))
    rest (inr (inl b)) room = get_or-put_above (v.top * v.width) m old new (k * v.width + q) room (size ∙ sym m-is)
        (omega (arith, m-is, mul-le (v.top + v.rows) v.width k v.width b (omega arith)))
    rest (inr (inr (inl c))) room = absurd (omega (arith, c, fits.columns, wide))
    rest (inr (inr (inr d))) room = absurd (omega (arith, d, wide, lq))
