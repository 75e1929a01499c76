-- Rows that are kept.
use Rattle.std.specs.Prelude.{◌≡◌, ℕ, ◌<◌, List, ◌++◌, ◌∷◌, [], length, slice_index_or}
use Rattle.std.specs.List.{remove}
use Rattle.iiif_open_files.specs.declared.wide_rows.WideRows.{WideRows}

-- the number of the opening that they were read by
abbrev pub number_of : {A B : Type 0} {o : _} → WideRows A B o → ℕ
number_of rows = rows.number

-- how many bytes they have
abbrev pub size_of : {A B : Type 0} {o : _} → WideRows A B o → ℕ
size_of rows = length rows.bytes

-- One entry, of this value, went behind all others, which are as they were.
pub record LastUsed {X V : Type 0} (value : X → V) (used : V) (old new : List X) : Type 0 where
  pub place : ℕ
  pub below : place < length old
  pub of_it : (d : X) → value (slice_index_or old place d) ≡ used
  pub moved : (d : X) → new ≡ remove old place ++ (slice_index_or old place d ∷ [])
