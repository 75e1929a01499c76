-- What keys, plans and images speak of: pictures by name, and the numbers that a node is set up with.
use Rattle.std.specs.Prelude.{◌≡◌, ℕ, ◌≤◌, Bool, List, Some}
use Rattle.iiif_pixel.specs.Picture.{Picture}
use Rattle.iiif_keys.specs.Names.{Pictures, IsSource}
use Rattle.iiif_keys.specs.Blocks.{IsEdge}
pub use Rattle.iiif_canonical.specs.declared.resolved.Limits.{Limits}

-- which picture a name has, the side of a tile, the limits on results, how many sums a block may have where it is planned with,
-- and whether faults are early: then a fault counts as soon as it is certain, before all parts, or all items, have come to something
pub record Scene : Type 0 where
  pub shows : Pictures
  pub edge : ℕ
  pub limits : Limits
  pub room : ℕ
  pub faults_early : Bool

-- the pictures are those of sources, and the numbers are within their limits
pub record IsProper (s : Scene) : Type 0 where
  pub sources : (name : List ℕ) (p : Picture) → s.shows name ≡ Some p → IsSource p
  pub edge : IsEdge s.edge
  pub room : s.room ≤ 65536
