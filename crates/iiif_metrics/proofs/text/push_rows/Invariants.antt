use Rattle.std.proofs.Common.{◌≡◌, ◌++◌, string_bytes, map, take}
use Rattle.iiif_metrics.specs.Exposition.{families_text, row_family}
use Rattle.iiif_metrics.proofs.text.push_rows.Given as goal

abbrev pub invariant-loop-row : goal.invariant-loop-row
invariant-loop-row l = string_bytes l.text ≡ string_bytes l.initial.text ++ families_text
    (map (row_family l.front) (take l.row-index l.rows))
