-- Pictures: the model of an image that all crates share, without bounds on its size.
--
--   place                    a pixel: column x from the left, row y from the top, from 0
--   joined                   pieces of a list, concatenated
--   row_of, samples_of       the samples of a row, of all rows, from a function of column, row and channel
--   picture_of               a picture from such a function
--   index_of, sample_at      where a sample lies, and the sample
--   with_sample, with_span   a picture with one sample, or one run of a row, replaced
--   span_of                  the samples of a run of a row
--   IsWhole                  gray or RGB, 8 or 16 bits, a sample for each place and channel
use Rattle.std.specs.Prelude.{◌≡◌, ℕ, ◌+◌, ◌*◌, ◌≤◌, ◌⊎◌, List, [], ◌∷◌, ◌++◌, All, length, slice_index, slice_set, take, drop}
use Prim.Native.Nat.{zero, suc}
use Rattle.iiif_pixel.specs.declared.geometry.Dim.{Dim}

-- Samples lie row by row from the top, in a row from the left, channel by channel at a place, as in TIFF 6.0, section 8
-- (Orientation 1, PlanarConfiguration 1). `top` is the greatest sample: black is 0 and white is `top`.
pub record Picture : Type 0 where
  pub width : ℕ
  pub height : ℕ
  pub channels : ℕ
  pub top : ℕ
  pub samples : List ℕ

-- the sides of a picture
abbrev pub dim_of : Picture → Dim
dim_of p = record { w = p.width; h = p.height }

-- the pieces 0, 1, .. up to n - 1, concatenated
abbrev pub joined : ℕ → (ℕ → List ℕ) → List ℕ
joined zero piece = []
joined (suc n) piece = joined n piece ++ piece n

-- a row of w places, whose sample in column x and channel k is f x k
unfoldable pub row_of : ℕ → ℕ → (ℕ → ℕ → ℕ) → List ℕ
row_of w c f = joined w (λ x. joined c (λ k. f x k ∷ []))

-- h rows of w places, whose sample in column x, row y and channel k is f x y k
unfoldable pub samples_of : ℕ → ℕ → ℕ → (ℕ → ℕ → ℕ → ℕ) → List ℕ
samples_of w h c f = joined h (λ y. row_of w c (λ x k. f x y k))

-- the picture of these sides, channels and top whose sample at each place is f x y k
abbrev pub picture_of : ℕ → ℕ → ℕ → ℕ → (ℕ → ℕ → ℕ → ℕ) → Picture
picture_of w h c t f = record { width = w; height = h; channels = c; top = t; samples = samples_of w h c f }

-- where the sample in column x, row y and channel k lies
abbrev pub index_of : Picture → ℕ → ℕ → ℕ → ℕ
index_of p x y k = (y * p.width + x) * p.channels + k

-- the sample in column x, row y and channel k
unfoldable pub sample_at : Picture → ℕ → ℕ → ℕ → ℕ
sample_at p x y k = slice_index p.samples (index_of p x y k)

-- p with another sample in column x, row y and channel k
abbrev pub with_sample : Picture → ℕ → ℕ → ℕ → ℕ → Picture
with_sample p x y k v = record p { samples = slice_set p.samples (index_of p x y k) v }

-- the samples of w places of row y, from column x on
abbrev pub span_of : Picture → ℕ → ℕ → ℕ → List ℕ
span_of p x y w = row_of w p.channels (λ i k. sample_at p (x + i) y k)

-- p with these samples in row y, from column x on
abbrev pub with_span : Picture → ℕ → ℕ → List ℕ → Picture
with_span p x y s =
    let start = (y * p.width + x) * p.channels in
    record p { samples = take start p.samples ++ s ++ drop (start + length s) p.samples }

-- A picture as the server knows them: gray or RGB (TIFF 6.0, sections 4 and 6), of 8 or 16 bits a sample, with a sample for
-- each place and channel, none above top.
pub record IsWhole (p : Picture) : Type 0 where
  pub channels : (p.channels ≡ 1) ⊎ (p.channels ≡ 3)
  pub top : (p.top ≡ 255) ⊎ (p.top ≡ 65535)
  pub count : length p.samples ≡ p.width * p.height * p.channels
  pub bound : All (λ v. v ≤ p.top) p.samples
