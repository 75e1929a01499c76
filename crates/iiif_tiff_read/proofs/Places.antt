-- Places of a part's samples: in the file, and among those of the rectangle.
--   piece_*, row_*   the piece of a pixel, and its row in the file
--   part_*           a part's rows in the file
--   *_even           rows that stand one after another
--   filled_part      a part more of a rectangle
use Rattle.std.proofs.Common.{◌≡◌, ℕ, ◌+◌, ◌*◌, ◌-◌, ◌/◌, ◌%◌, ◌<◌, ◌≤◌, ◌⊎◌, List, length, get_or, refl, sym, ap, ◌∙◌, inl, inr, arith}
use Rattle.std.specs.Prelude.{min, slice_index, false}
use Rattle.std.specs.Int.{div_ceil}
use Rattle.std.proofs.Math.Nat.{mul-le-mul_right}
use Rattle.std.proofs.lemmas.Bool.{cases_lt, cases_Bool}
use Rattle.std.proofs.lemmas.Nat.{mul-add-lt, row_fits, div_below, mod_below, div-add-mod', div-mul-add, mod-mul-add}
use Rattle.iiif_pixel.specs.declared.geometry.Rect.{Rect}
use Rattle.iiif_tiff.specs.Tiff.{Scheme, row_bytes, piece_rows, piece_bytes, stored}
use Rattle.iiif_tiff_read.specs.declared.part.Part.{Part}
use Rattle.iiif_tiff_read.specs.Layouts.{FitsIn}
use Rattle.iiif_tiff_read.specs.Code.{IsSound, AreEven, IsPart, FitsWindow, HoldsPart, KeepsOthers, row_place, stored_at, window_of}
use Rattle.iiif_tiff.proofs.Numbers.{one_piece}

one_row : (q m r : ℕ) → m ≡ 1 → (q + m) * r ≡ q * r + r
one_row q m r e = rw e (omega arith)

no_row : (q m r : ℕ) → m ≡ 0 → (q + m) * r ≡ q * r
no_row q m r e = rw e (omega arith)

div_lt_ceil : (y h r : ℕ) → 0 < r → y < h → y / r < div_ceil h r
div_lt_ceil y h r pos lt =
    elim (cases_lt 0 (h % r)) [
      | inl more ↦ div_below y r (h / r + min 1 (h % r)) pos
          (omega (arith, div-add-mod' h r, mod_below h r pos, one_row (h / r) (min 1 (h % r)) r (omega arith)))
      | inr none ↦ div_below y r (h / r + min 1 (h % r)) pos
          (omega (arith, div-add-mod' h r, no_row (h / r) (min 1 (h % r)) r (omega arith)))
    ]

across_one : (s : Scheme) → IsSound s → s.tiled ≡ false → s.tiles_across ≡ 1
across_one s sound strips = sound.across ∙ rw (sound.strip strips) (one_piece s.width sound.sides.width_some)

-- The piece of a pixel is one of the pieces.
pub piece_index : (s : Scheme) (x y : ℕ) → IsSound s → x < s.width → y < s.height →
    y / s.piece_height * s.tiles_across + x / s.piece_width < length s.offsets
piece_index s x y sound xw yh =
    let column : x / s.piece_width < s.tiles_across = rw sound.across (div_lt_ceil x s.width s.piece_width sound.piece_width.0 xw) in
    let row : y / s.piece_height < div_ceil s.height s.piece_height = div_lt_ceil y s.height s.piece_height sound.piece_height.0 yh in
    rw sound.count (mul-add-lt (y / s.piece_height) s.tiles_across (x / s.piece_width) (div_ceil s.height s.piece_height) row column)

-- n rows from row y on are rows of their piece
rows_left : (s : Scheme) (x y n : ℕ) → IsSound s → x < s.width → y + n ≤ s.height → y % s.piece_height + n ≤ s.piece_height →
    y % s.piece_height + n ≤ piece_rows s (y / s.piece_height * s.tiles_across + x / s.piece_width)
rows_left s x y n sound xw yh inside =
    let here : y / s.piece_height * s.piece_height + y % s.piece_height ≡ y = div-add-mod' y s.piece_height in
    elim (cases_Bool s.tiled) [
      | inl tiles ↦ rw tiles inside
      | inr strips ↦
          let across : s.tiles_across ≡ 1 = across_one s sound strips in
          let none : x / s.width ≡ 0 = omega (arith, div_below x s.width 1 (omega arith) (omega arith)) in
          let one : y / s.piece_height * 1 + 0 ≡ y / s.piece_height = omega arith in
          rw (strips, sound.strip strips, across, none, one) (omega arith)
    ]

-- a row stands in the file, whole
row_in_file : (s : Scheme) (x y n : ℕ) → IsSound s → FitsIn s n → x < s.width → y < s.height → row_place s x y + row_bytes s ≤ n
unfolding row_place piece_bytes
row_in_file s x y n sound fits xw yh =
    let below : y % s.piece_height < s.piece_height = mod_below y s.piece_height sound.piece_height.0 in
    let left = rows_left s x y 1 sound xw (omega (arith, yh)) (omega (arith, below)) in
    let piece = fits (y / s.piece_height * s.tiles_across + x / s.piece_width) (piece_index s x y sound xw yh) in
    let product = mul-le-mul_right (row_bytes s) left in
    omega (arith, piece, product)

last_row : (n r : ℕ) → 0 < n → n * r ≡ (n - 1) * r + r
last_row n r some =
    let e : n ≡ n - 1 + 1 = omega (arith, some) in
    ap (λ (k : ℕ). k * r) e ∙ omega arith

-- The part's rows stand in the file, each whole.
pub part_in_file : (s : Scheme) (r : Rect) (p : Part) (n : ℕ) → IsSound s → FitsIn s n → IsPart s r p →
    row_place s (r.x + p.left) (r.y + p.top) + p.rows * row_bytes s ≤ n
part_in_file s r p n sound fits part =
    let xw : r.x + p.left < s.width = omega (arith, part.inside.columns, part.columns, part.columns_some) in
    let yh : r.y + p.top + (p.rows - 1) < s.height = omega (arith, part.inside.rows, part.rows, part.rows_some) in
    let last = row_in_file s (r.x + p.left) (r.y + p.top + (p.rows - 1)) n sound fits xw yh in
    omega (arith, last, part.even (p.rows - 1) (omega (arith, part.rows_some)), last_row p.rows (row_bytes s) part.rows_some)

-- Fewer bits take no more bytes.
pub ceil_le : (a b : ℕ) → a ≤ b → div_ceil a 8 ≤ div_ceil b 8
ceil_le a b le = omega arith

-- The samples of a row of the part stand within a row of the piece.
pub part_in_row : (s : Scheme) (r : Rect) (p : Part) → IsPart s r p →
    div_ceil (((r.x + p.left) % s.piece_width * s.channels + p.columns * s.channels) * s.bits) 8 ≤ row_bytes s
part_in_row s r p part =
    let sum : (r.x + p.left) % s.piece_width * s.channels + p.columns * s.channels ≡ ((r.x + p.left) % s.piece_width + p.columns) *
    s.channels = omega arith in
    rw sum (ceil_le (((r.x + p.left) % s.piece_width + p.columns) * s.channels * s.bits) (s.piece_width * s.channels * s.bits)
    (mul-le-mul_right s.bits (mul-le-mul_right s.channels part.piece_columns)))

-- The window of a part stands among the rectangle's samples.
pub window_fits : (s : Scheme) (r : Rect) (p : Part) (c n : ℕ) → IsPart s r p → n ≡ r.w * r.h * c → FitsWindow (window_of c r p) n
window_fits s r p c n part n-is =
    let columns : (p.left + p.columns) * c ≤ r.w * c = mul-le-mul_right c part.columns in
    let rows : (p.top + p.rows) * (r.w * c) ≤ r.h * (r.w * c) = mul-le-mul_right (r.w * c) part.rows in
    let all : r.h * (r.w * c) ≡ r.w * r.h * c = grind arith in
    record { columns = omega (arith, columns); rows = omega (arith, rows, all, n-is) }

-- ---- places of the image and of the rectangle

-- column x + d lies in the piece of column x while d is below what is left of it
in_piece : (x w d : ℕ) → 0 < w → d < w - x % w → ((x + d) / w ≡ x / w) × ((x + d) % w ≡ x % w + d)
in_piece x w d pos lt =
    let below : x % w + d < w = omega (arith, mod_below x w pos) in
    let whole : x + d ≡ x / w * w + (x % w + d) = omega (arith, div-add-mod' x w) in
    (rw whole (div-mul-add (x / w) w (x % w + d) below), rw whole (mod-mul-add (x / w) w (x % w + d) below))

-- its rows begin where those of column x do
same_column : (s : Scheme) (x d y : ℕ) → 0 < s.piece_width → d < s.piece_width - x % s.piece_width → row_place s (x + d) y ≡ row_place s x y
unfolding row_place
same_column s x d y pos lt = rw (in_piece x s.piece_width d pos lt).0 refl

-- Rows of one piece stand one after another.
pub piece_even : (s : Scheme) (x y n : ℕ) → 0 < s.piece_height → y % s.piece_height + n ≤ s.piece_height → AreEven s x y n
unfolding row_place
piece_even s x y n pos le j lt =
    let row = in_piece y s.piece_height j pos (omega (arith, le, lt)) in
    rw (row.0, row.1) (omega arith)

-- Rows of the piece below do too, where it begins where m rows end.
pub even_below : (s : Scheme) (x y m d : ℕ) → 0 < s.piece_height → d ≤ s.piece_height → (y + m) % s.piece_height ≡ 0 → AreEven s x y m →
    row_place s x (y + m) ≡ row_place s x y + m * row_bytes s
    → AreEven s x y (m + d)
even_below s x y m d pos le begins even joins j lt =
    elim (cases_lt j m) [
      | inl above ↦ even j above
      | inr below ↦
          let there = piece_even s x (y + m) d pos (omega (arith, begins, le)) (j - m) (omega (arith, below, lt)) in
          let at : y + j ≡ y + m + (j - m) = omega (arith, below) in
          let rows : j ≡ m + (j - m) = omega (arith, below) in
          let bytes : j * row_bytes s ≡ m * row_bytes s + (j - m) * row_bytes s = ap (λ (k : ℕ). k * row_bytes s) rows ∙ omega arith in
          ap (λ (k : ℕ). row_place s x k) at ∙ omega (arith, there, joins, bytes)
    ]

-- The row behind the k that are left of a piece is the first of the next.
pub piece_ends : (y h k : ℕ) → 0 < h → y % h + k ≡ h → (y + k) % h ≡ 0
piece_ends y h k pos left =
    let next : y + k ≡ (y / h + 1) * h + 0 = omega (arith, div-add-mod' y h, left) in
    rw next (mod-mul-add (y / h + 1) h 0 pos)

-- what is so of a column is so of each of its piece
pub columns_even : (s : Scheme) (x d y n : ℕ) → 0 < s.piece_width → d < s.piece_width - x % s.piece_width → AreEven s x y n →
    AreEven s (x + d) y n
columns_even s x d y n pos lt even j below = same_column s x d (y + j) pos lt ∙ even j below ∙
    ap (λ (m : ℕ). m + j * row_bytes s) (sym (same_column s x d y pos lt))

stored_there : (s : Scheme) (bytes : List ℕ) (x y dx dy k : ℕ) → 0 < s.piece_width → dx < s.piece_width - x % s.piece_width →
    row_place s x (y + dy) ≡ row_place s x y + dy * row_bytes s
    → stored_at bytes s (x + dx) (y + dy) k ≡ stored s.bits bytes (row_place s x y + dy * row_bytes s)
    (x % s.piece_width * s.channels + (dx * s.channels + k))
unfolding stored_at
stored_there s bytes x y dx dy k pw dxw row =
    let sample : (x % s.piece_width + dx) * s.channels + k ≡ x % s.piece_width * s.channels + (dx * s.channels + k) = omega arith in
    rw ((in_piece x s.piece_width dx pw dxw).1, same_column s x dx (y + dy) pw dxw, row, sample) refl

-- In the rows before `top` and, in `rows` rows from there on, in the columns before `left` the samples are those that are stored.
abbrev pub Filled : List ℕ → Scheme → Rect → ℕ → ℕ → ℕ → List ℕ → Type 0
Filled bytes s r top rows left samples = (x y k : ℕ) → x < r.w → k < s.channels → (y < top) ⊎ ((y < top + rows) × (x < left))
    → slice_index samples ((y * r.w + x) * s.channels + k) ≡ stored_at bytes s (r.x + x) (r.y + y) k

flat : (w c x y k : ℕ) → (y * w + x) * c + k ≡ y * (w * c) + (x * c + k)
flat w c x y k = grind arith

flat_part : (w c x y k left top : ℕ) → left ≤ x → top ≤ y →
    (y * w + x) * c + k ≡ (top + (y - top)) * (w * c) + (left * c + ((x - left) * c + k))
flat_part w c x y k left top lx ly =
    let xs : left + (x - left) ≡ x = omega arith in
    let ys : top + (y - top) ≡ y = omega arith in
    let q : left * c + ((x - left) * c + k) ≡ (left + (x - left)) * c + k = omega arith in
    rw (q, xs, ys) (flat w c x y k)

-- With a part more, the samples of the rectangle up to its right edge are those that are stored.
pub filled_part : (bytes old new : List ℕ) (s : Scheme) (r : Rect) (p : Part) → IsSound s → IsPart s r p → HoldsPart bytes s r p new →
    KeepsOthers s r p old new
    → Filled bytes s r p.top p.rows p.left old → Filled bytes s r p.top p.rows (p.left + p.columns) new
filled_part bytes old new s r p sound part held rest so_far x y k xw kc (inl a) =
    let q : x * s.channels + k < r.w * s.channels = omega (arith, row_fits x s.channels r.w s.channels xw (omega arith)) in
    rw (flat r.w s.channels x y k) (rest y (x * s.channels + k) q (inl a)) ∙ so_far x y k xw kc (inl a)
filled_part bytes old new s r p sound part held rest so_far x y k xw kc (inr b) =
    let q : x * s.channels + k < r.w * s.channels = omega (arith, row_fits x s.channels r.w s.channels xw (omega arith)) in
    elim (cases_lt x p.left) [
      | inl before ↦
          let ql : x * s.channels + k < p.left * s.channels = omega (arith, row_fits x s.channels p.left s.channels before (omega arith)) in
          rw (flat r.w s.channels x y k) (rest y (x * s.channels + k) q (inr (inr (inl ql)))) ∙ so_far x y k xw kc (inr (b.0, before))
      | inr from ↦ elim (cases_lt y p.top) [
        | inl above ↦ rw (flat r.w s.channels x y k) (rest y (x * s.channels + k) q (inl above)) ∙ so_far x y k xw kc (inl above)
        | inr below ↦
            let dx : x - p.left < p.columns = omega (arith, b.1) in
            let dy : y - p.top < p.rows = omega (arith, b.0) in
            let i : (x - p.left) * s.channels + k < p.columns * s.channels =
            omega (arith, row_fits (x - p.left) s.channels p.columns s.channels dx (omega arith)) in
            let xs : r.x + p.left + (x - p.left) ≡ r.x + x = omega arith in
            let ys : r.y + p.top + (y - p.top) ≡ r.y + y = omega arith in
            let there = stored_there s bytes (r.x + p.left) (r.y + p.top) (x - p.left) (y - p.top) k sound.piece_width.0
            (omega (arith, part.piece_columns)) (part.even (y - p.top) dy) in
            ap (λ (m : ℕ). get_or new m 0) (flat_part r.w s.channels x y k p.left p.top from below) ∙
            held (y - p.top) ((x - p.left) * s.channels + k) dy i ∙ sym there
            ∙ ap (λ (m : ℕ). stored_at bytes s m (r.y + p.top + (y - p.top)) k) xs ∙ ap (λ (m : ℕ). stored_at bytes s (r.x + x) m k) ys
      ]
    ]
