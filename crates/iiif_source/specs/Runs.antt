-- Runs of bytes at equal distances, as the rows of a part of an image are in its file.
--
--   AreIn       runs inside a source of n bytes
--   HoldsRuns   a buffer with the bytes of the first m runs, one behind another
--   BeginsAt    an offset where one of the runs begins
use Rattle.std.specs.Prelude.{◌≡◌, ℕ, ◌+◌, ◌-◌, ◌*◌, ◌^◌, ◌<◌, ◌≤◌, List, slice_index}
use Rattle.iiif_source.specs.declared.Runs.{Runs}

-- The runs lie in a source of n bytes. (The bounds are those of every image that is read.)
pub record AreIn (n : ℕ) (r : Runs) : Type 0 where
  pub small : (r.at ≤ 2 ^ 61) × (r.stride ≤ 2 ^ 23) × (r.len ≤ r.stride)
  pub some : 0 < r.count
  pub within : r.at + (r.count - 1) * r.stride + r.len ≤ n

-- The buffer holds the first m runs, one behind another.
abbrev pub HoldsRuns : List ℕ → Runs → ℕ → List ℕ → Type 0
HoldsRuns bytes r m buffer = (j i : ℕ) → j < m → i < r.len →
    slice_index buffer (j * r.len + i) ≡ slice_index bytes (r.at + j * r.stride + i)

-- One of the runs begins at the offset.
abbrev pub BeginsAt : Runs → ℕ → Type 0
BeginsAt r place = (j : ℕ) × (j < r.count) × (place ≡ r.at + j * r.stride)
