-- Runs that are copied from rows.
use Rattle.std.proofs.Common.{◌≡◌, ℕ, ◌+◌, ◌-◌, ◌*◌, ◌<◌, List, slice_index, ap, ◌∙◌, arith}
use Rattle.iiif_source.specs.declared.Runs.{Runs}
use Rattle.iiif_source.specs.Runs.{HoldsRuns}
use Rattle.iiif_open_files.specs.Rows.{AreAmong}

-- A byte that was copied from the kept bytes of the rows is the source's.
pub copied : (bytes kept : List ℕ) (rows runs : Runs) (b j i : ℕ) → AreAmong rows runs → j < runs.count → i < runs.len →
    HoldsRuns bytes rows rows.count kept
    → b ≡ slice_index kept (runs.at - rows.at + j * rows.len + i) → b ≡ slice_index bytes (runs.at + j * runs.stride + i)
copied bytes kept rows runs b j i among below within held read =
    let stride : j * rows.stride ≡ j * runs.stride = ap (λ (s : ℕ). j * s) among.stride in
    let inner : runs.at - rows.at + j * rows.len + i ≡ j * rows.len + (runs.at - rows.at + i) = omega arith in
    let outer : rows.at + j * rows.stride + (runs.at - rows.at + i) ≡ runs.at + j * runs.stride + i = omega (arith, among.from, stride) in
    read ∙ ap (λ (k : ℕ). slice_index kept k) inner ∙
    held j (runs.at - rows.at + i) (omega (arith, among.count)) (omega (arith, among.from, among.to)) ∙
    ap (λ (k : ℕ). slice_index bytes k) outer
