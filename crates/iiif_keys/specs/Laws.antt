-- Laws of the parts of sums and of their meanings.
--
--   once   each part is listed once, and nothing else
--   below  a part is of the level below, with the name, the edge, the rectangle and the size of the key
--   fit    a part fits the image that the key fits
--   cut    the parts' shares of the rectangle don't overlap, and cover that of the key
use Rattle.std.specs.Prelude.{◌≡◌, ℕ, ◌+◌, ◌-◌, ◌/◌, ◌^◌, ◌<◌, Bool, ◌&&◌, ◌==◌, All, count_by, map, if◌then◌else◌}
use Rattle.iiif_pixel.specs.Geometry.{channels_of}
use Rattle.iiif_pixel.specs.declared.geometry.Dim.{Dim}
use Rattle.iiif_area.specs.Laws.{IsCutInto}
use Rattle.iiif_keys.specs.Names.{Pictures, named, IsSource}
use Rattle.iiif_keys.specs.Shapes.{HasPicture}
use Rattle.iiif_keys.specs.Blocks.{part_in, HasParts, IsOfBlock, SumFitsIn, TileFitsIn}
use Rattle.iiif_keys.specs.Meaning.{meets_rect, sum_derived, sum_meaning, sums_below, tile_below}
use Rattle.iiif_keys.specs.declared.keys.Shape.{Shape}
use Rattle.iiif_keys.specs.declared.keys.SumKey.{SumKey}

-- Whether the block in column i and row j of the level below is a quarter of the key's block, and has a pixel of the rectangle.
abbrev pub is_part : SumKey → ℕ → ℕ → Bool
is_part k i j =
    i / 2 == k.bx && j / 2 == k.by && meets_rect (record {
      name = k.name;
      edge = k.edge;
      rect = k.rect;
      size = k.size;
      level = k.level - 1;
      bx = i;
      by = j;
    })

-- Each block of the level below that is a part is listed once, and no other.
abbrev pub EachPartOnce : Type 0
EachPartOnce = (k : SumKey) (i j : ℕ) → 0 < k.level →
    count_by (λ q. q.bx == i && q.by == j) (sums_below k) ≡ (if is_part k i j then 1 else 0)

-- The key is of the level below another, with its name, edge, rectangle and size.
pub record IsBelow (k q : SumKey) : Type 0 where
  pub name : q.name ≡ k.name
  pub edge : q.edge ≡ k.edge
  pub rect : q.rect ≡ k.rect
  pub size : q.size ≡ k.size
  pub level : q.level + 1 ≡ k.level

-- Each part of a key above level 0 is of the level below.
abbrev pub PartsAreBelow : Type 0
PartsAreBelow = (k : SumKey) → 0 < k.level → All (IsBelow k) (sums_below k)

-- Each part of a key that fits an image fits it.
abbrev pub PartsFit : Type 0
PartsFit = (image : Dim) (channels : ℕ) (k : SumKey) → 0 < k.level → SumFitsIn image channels k →
    All (SumFitsIn image channels) (sums_below k)

-- The tile of a key of level 0 that fits an image fits it.
abbrev pub TileFits : Type 0
TileFits = (image : Dim) (channels : ℕ) (k : SumKey) → k.level ≡ 0 → SumFitsIn image channels k → TileFitsIn image channels (tile_below k)

-- Each pixel of the block's part of the rectangle is of one part, and of no other.
abbrev pub PartsCut : Type 0
PartsCut = (image : Dim) (k : SumKey) → 0 < k.level → IsOfBlock image k → IsCutInto (part_in image k) (map (part_in image) (sums_below k))

-- The meanings of a key's parts make its meaning.
abbrev pub PartsMakeMeaning : Type 0
PartsMakeMeaning = (shows : Pictures) (s : Shape) (k : SumKey) → HasPicture shows k.name s → IsSource (named shows k.name)
    → SumFitsIn s.dim (channels_of s.kind) k → sum_derived shows k ≡ sum_meaning shows k

-- A key that fits an image has parts.
abbrev pub FittingHasParts : Type 0
FittingHasParts = (image : Dim) (k : SumKey) → image.w < 2 ^ 32 → image.h < 2 ^ 32 → IsOfBlock image k → HasParts k
