-- Rows of bytes that are read ahead of what was asked for, so that what is asked for next is there.
use Rattle.std.specs.Prelude.{◌≡◌, ℕ, ◌+◌, ◌*◌, ◌^◌, ◌<◌, ◌≤◌, nat_lt, if◌then◌else◌}
use Rattle.iiif_source.specs.declared.Runs.{Runs}
use Rattle.iiif_source.specs.Runs.{AreIn}

-- The runs are among the rows: as far apart, as many, and each is a part of its row.
pub record AreAmong (rows runs : Runs) : Type 0 where
  pub stride : rows.stride ≡ runs.stride
  pub count : rows.count ≡ runs.count
  pub from : rows.at ≤ runs.at
  pub to : runs.at + runs.len ≤ rows.at + rows.len

-- How many bytes so many rows have together at most: 1 MiB, of up to 16 rows 64 KiB.
abbrev pub room_of : ℕ → ℕ
room_of count = if nat_lt 16 count then 2 ^ 20 else 2 ^ 16

-- The rows begin where the runs do and are longer, they stand in a source of n bytes, and together they have room.
pub record AreWider (n : ℕ) (runs rows : Runs) : Type 0 where
  pub begin : rows.at ≡ runs.at
  pub stride : rows.stride ≡ runs.stride
  pub count : rows.count ≡ runs.count
  pub longer : runs.len < rows.len
  pub room : rows.count * rows.len ≤ room_of rows.count
  pub within : AreIn n rows
