use Rattle.std.proofs.Common.{◌≡◌, ℕ, ◌+◌, ◌-◌, ◌*◌, ◌<◌, ◌≤◌, ◌⊎◌}
use Rattle.iiif_pixel.specs.Depths.{span_values}
use Rattle.iiif_area.proofs.AddingLaws.{TakenOf}
use Rattle.iiif_area.proofs.adding.add_row.Given as goal

-- all result columns have taken of the source columns so far
abbrev pub invariant-loop-t : goal.invariant-loop-t
invariant-loop-t l = record {
  within : l.i ≤ l.stretch.results;
  left : l.left ≡ (l.stretch.first + l.i) * l.stretch.columns.a;
  begin : l.begin ≡ (l.stretch.columns.from + l.t) * l.stretch.columns.c;
  passed : 0 < l.i → l.left ≤ l.begin;
  taken : (i k : ℕ) → i < l.stretch.results → k < l.channels →
      TakenOf l.stretch.first l.stretch.columns.from l.stretch.columns.a l.stretch.columns.c l.channels l.rows (span_values l.samples)
      l.fn.sums l.sums l.t i k;
}

-- the result columns before i have taken of source column t too
abbrev pub invariant-loop-i : goal.invariant-loop-i
invariant-loop-i l = record {
  from : l.initial.i ≤ l.i;
  within : l.i ≤ l.stretch.results;
  left : l.left ≡ (l.stretch.first + l.i) * l.stretch.columns.a;
  back : l.initial.i < l.i → l.left < l.end + l.a;
  taken : (i k : ℕ) → l.initial.i ≤ i → i < l.i → k < l.channels →
      TakenOf l.stretch.first l.stretch.columns.from l.stretch.columns.a l.stretch.columns.c l.channels l.rows (span_values l.samples)
      l.fn.sums l.sums (l.t + 1) i k;
  kept : (i k : ℕ) → i < l.stretch.results → k < l.channels → (i < l.initial.i) ⊎ (l.i ≤ i) →
      TakenOf l.stretch.first l.stretch.columns.from l.stretch.columns.a l.stretch.columns.c l.channels l.rows (span_values l.samples)
      l.fn.sums l.sums l.t i k;
}

abbrev pub decreases-loop-i : goal.decreases-loop-i
decreases-loop-i l = l.stretch.results - l.i
