-- The laws of plans: what covers a region names each tile or block that has a place of it once; and a plan's level is the
-- greatest that passes a test.
--
-- `is_met`: a square has a place of the region. `EachTileOnce`, `EachBlockOnce`, `LevelIsGreatest`: the laws.
use Rattle.std.specs.Prelude.{◌≡◌, ℕ, ◌*◌, ◌^◌, List, Bool, ◌&&◌, ◌==◌, nat_lt, ◌↔◌, count_by, if◌then◌else◌}
use Rattle.iiif_pixel.specs.Geometry.{LiesIn}
use Rattle.iiif_pixel.specs.declared.geometry.Dim.{Dim}
use Rattle.iiif_pixel.specs.declared.geometry.Rect.{Rect}
use Rattle.iiif_area.specs.Places.{part_of}
use Rattle.iiif_keys.specs.Blocks.{square, clipped}
use Rattle.iiif_keys.specs.declared.keys.TileKey.{TileKey}
use Rattle.iiif_keys.specs.declared.keys.SumKey.{SumKey}
use Rattle.iiif_planner.specs.Levels.{IsLevel}
use Rattle.iiif_planner.specs.Items.{greatest, is_usable}
use Rattle.iiif_planner.specs.Plans.{TilesCover, BlocksCover}

-- whether the square in column i and row j has, within the image, a place of the region
abbrev pub is_met : Dim → ℕ → Rect → ℕ → ℕ → Bool
is_met image side region i j =
    let part = part_of (clipped image (square side i j)) region in
    nat_lt 0 part.w && nat_lt 0 part.h

-- Of the tiles of an image, each that has a place of the region is listed once, and no other.
abbrev pub EachTileOnce : Type 0
EachTileOnce = (name : List ℕ) (edge : ℕ) (image : Dim) (channels : ℕ) (region : Rect) (keys : List TileKey) → LiesIn region image →
    TilesCover name edge image channels region keys → (i j : ℕ) →
    count_by (λ k. k.tx == i && k.ty == j) keys ≡ (if is_met image edge region i j then 1 else 0)

-- Of the blocks of a level, each that has a place of the region is listed once, and no other.
abbrev pub EachBlockOnce : Type 0
EachBlockOnce = (name : List ℕ) (edge : ℕ) (image : Dim) (channels : ℕ) (region : Rect) (size : Dim) (level : ℕ) (keys : List SumKey) →
    LiesIn region image →
    BlocksCover name edge image channels region size level keys →
    (i j : ℕ) → count_by (λ k. k.bx == i && k.by == j) keys ≡ (if is_met image (2 ^ level * edge) region i j then 1 else 0)

-- The level of a plan's blocks is the greatest up to 20 that passes the test, or 0.
abbrev pub LevelIsGreatest : Type 0
LevelIsGreatest = (edge : ℕ) (image region size : Dim) (channels room level : ℕ) →
    IsLevel edge image region size channels room level ↔ (level ≡ greatest (is_usable edge image region size channels room) 20)
