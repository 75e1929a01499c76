-- How the sums over a tile are added up, column by column: the words of the private functions' contracts.
--
-- share      the part of a region that a tile holds, with the region's sides and the sides that it is scaled to
-- axis       the columns, or the rows, of a share: the region's, the result's, and which of the region's the part has
-- weight     the length that a source column has in a result column (`weight_of`); rows likewise
-- column sum the samples of a tile's column, each times the weight of its row in one result row
-- span       the source columns that have a weight in one result column: all but the first and the last are whole
use Rattle.std.specs.Prelude.{◌≡◌, ℕ, ◌+◌, ◌-◌, ◌*◌, ◌<◌, ◌≤◌, ◌^◌, ◌⊎◌, List, length, slice_index}
use Rattle.iiif_pixel.specs.Geometry.{sides_of, LiesIn}
use Rattle.iiif_pixel.specs.Picture.{Picture, sample_at}
use Rattle.iiif_pixel.specs.Scaling.{area_sum, sum_from, weight_of}
use Rattle.iiif_pixel.specs.declared.geometry.Dim.{Dim}
use Rattle.iiif_pixel.specs.declared.geometry.Rect.{Rect}
use Rattle.iiif_area.specs.Grid.{Grid, grid_of}
use Rattle.iiif_area.specs.Places.{corner_of, part_of, places_of, IsScalable}
use Rattle.iiif_area.specs.declared.columns.Span.{Span}
use Rattle.iiif_area.specs.declared.places.Share.{Share}
use Rattle.iiif_area.specs.declared.weights.Axis.{Axis}

-- A tile's share of a region that is scaled to `size`; tile and region are given in the columns and rows of one image.
abbrev pub share_of : Rect → Rect → Dim → Share
share_of tile region size = record {
  corner = corner_of tile region;
  part = part_of tile region;
  region = sides_of region;
  size = size;
}

-- A share's columns.
abbrev pub columns_of : Share → Axis
columns_of share = record { a = share.region.w; c = share.size.w; from = share.part.x; count = share.part.w }

-- A share's rows.
abbrev pub rows_of : Share → Axis
rows_of share = record { a = share.region.h; c = share.size.h; from = share.part.y; count = share.part.h }

-- The rectangle of the tile in which the part lies.
abbrev pub held_of : Share → Rect
held_of share = record { x = share.corner.0; y = share.corner.1; w = share.part.w; h = share.part.h }

-- The tile's sample at the region's place (x, y) in channel k: the tile holds the part from its place `corner` on.
unfoldable pub tile_sample : Picture → ℕ × ℕ → Rect → ℕ → ℕ → ℕ → ℕ
tile_sample tile corner part k x y = sample_at tile (corner.0 + (x - part.x)) (corner.1 + (y - part.y)) k

-- The weighted sum at result place (i, j) in channel k over a share's part, of the samples of the tile that holds it.
abbrev pub share_sum : Picture → Share → ℕ → ℕ → ℕ → ℕ
share_sum tile share i j k = area_sum share.region share.size share.part (tile_sample tile share.corner share.part k) i j

-- These sums at all result places that the part meets.
unfoldable pub share_sums : Picture → Share → Grid
share_sums tile share =
    grid_of (places_of share.region share.size share.part) tile.channels (λ i j k. share_sum tile share i j k)

-- A tile holds a share of a region that can be scaled.
pub record HoldsShare (tile : Picture) (share : Share) : Type 0 where
  -- no side is empty, and the region's sums fit 64 bits
  pub limits : IsScalable share.region share.size
  -- the part is one of the region
  pub inside : LiesIn share.part share.region
  -- the tile has the part's columns and rows, from the corner on
  pub columns : share.corner.0 + share.part.w ≤ tile.width
  pub rows : share.corner.1 + share.part.h ≤ tile.height
  -- places in the tile are numbers of 32 bits
  pub last_column : share.corner.0 + share.part.w < 2 ^ 32
  pub last_row : share.corner.1 + share.part.h < 2 ^ 32

-- A tile holds the rows of a part in its rectangle `held`; `rows` are the part's and the region's.
pub record HasRows (tile : Picture) (held : Rect) (rows : Axis) : Type 0 where
  -- the result has a row
  pub divides : 0 < rows.c
  -- the part's rows are the region's
  pub inside : rows.from + rows.count ≤ rows.a
  -- the rectangle has as many rows as the part
  pub count : rows.count ≡ held.h
  -- the rectangle lies in the tile
  pub right : held.x + held.w ≤ tile.width
  pub lower : held.y + held.h ≤ tile.height
  -- places in the tile are numbers of 32 bits
  pub last_row : held.y + held.h < 2 ^ 32

-- Of samples from 0 to `top` the column sums fit 32 bits, and the sums of whole rows, unweighted, 16 bits.
pub record IsShort (top : ℕ) (rows : Axis) : Type 0 where
  -- samples have 8 bits
  pub depth : top ≡ 255
  -- a column's weights add up to at most the region's rows
  pub sums : rows.a * 255 < 2 ^ 32
  -- a weight fits 16 bits
  pub weights : rows.c < 2 ^ 16
  -- at most 257 whole rows go into a result row: the part has no more, or each result row covers no more
  pub run : (rows.count ≤ 257) ⊎ (rows.a ≤ 257 * rows.c)

-- The weighted sum of column t of the part in channel k, for result row j, where the tile holds the part in the rectangle `held`.
unfoldable pub column_sum : Picture → Rect → Axis → ℕ → ℕ → ℕ → ℕ
column_sum tile held rows j t k =
    sum_from 0 rows.count (λ s. weight_of j (rows.from + s) rows.a rows.c * sample_at tile (held.x + t) (held.y + s) k)

-- Of a part's columns, counted from its first, those from s.start to s.end (s.end excluded) have a weight in result column i.
pub record IsSpan (axis : Axis) (i : ℕ) (s : Span) : Type 0 where
  pub in_order : s.start ≤ s.end
  pub within : s.end ≤ axis.count
  -- columns outside have no weight
  pub below : (t : ℕ) → t < s.start → weight_of i (axis.from + t) axis.a axis.c ≡ 0
  pub above : (t : ℕ) → s.end ≤ t → t < axis.count → weight_of i (axis.from + t) axis.a axis.c ≡ 0
  -- columns between the first and the last are whole
  pub between : (t : ℕ) → s.start < t → t + 1 < s.end → weight_of i (axis.from + t) axis.a axis.c ≡ axis.c
  -- the span has the weights of the first and of the last; a single column counts as the first
  pub first : s.start < s.end → s.first ≡ weight_of i (axis.from + s.start) axis.a axis.c
  pub last : s.start + 1 < s.end → s.last ≡ weight_of i (axis.from + (s.end - 1)) axis.a axis.c
  pub single : s.end ≤ s.start + 1 → s.last ≡ 0
  pub none : s.start ≡ s.end → s.first ≡ 0

-- Where columns are scaled to c: the span of result column i has n whole columns, behind i spans of n columns each.
pub record IsWholeSpan (c n i : ℕ) (s : Span) : Type 0 where
  pub start : s.start ≡ i * n
  pub end : s.end ≡ i * n + n
  pub first : s.first ≡ c
  pub last : s.last ≡ c

-- The list `after` is `before` and m entries more: f i k in channel k at place i, with n channels at a place.
pub record IsMore (before after : List ℕ) (n m : ℕ) (f : ℕ → ℕ → ℕ) : Type 0 where
  pub count : length after ≡ length before + m
  pub kept : (t : ℕ) → t < length before → slice_index after t ≡ slice_index before t
  pub added : (i k : ℕ) → k < n → i * n + k < m → slice_index after (length before + (i * n + k)) ≡ f i k

-- The weighted sum of a span's column sums in channel k, with n channels: of its first column, of those between, of its last.
unfoldable pub span_total : List ℕ → ℕ → ℕ → ℕ → Span → ℕ
span_total columns n k c s =
    s.first * slice_index columns (s.start * n + k)
    + c * sum_from (s.start + 1) (s.end - 1 - (s.start + 1)) (λ t. slice_index columns (t * n + k))
    + s.last * slice_index columns ((s.end - 1) * n + k)

-- The weighted sum of a row of samples for result column i in channel k, with n channels a place: the row's places are `count` source
-- columns from `from` on, of a that are scaled to c.
unfoldable pub row_sum_from : List ℕ → ℕ → ℕ → ℕ → ℕ → ℕ → ℕ → ℕ → ℕ
row_sum_from row n from count a c i k = sum_from 0 count (λ t. weight_of i (from + t) a c * slice_index row (t * n + k))

-- The same of a row that has a part's columns.
abbrev pub row_sum : List ℕ → ℕ → Axis → ℕ → ℕ → ℕ
row_sum row n axis i k = row_sum_from row n axis.from axis.count axis.a axis.c i k
