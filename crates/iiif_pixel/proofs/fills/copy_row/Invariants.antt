use Rattle.std.proofs.Common.{◌≡◌, ℕ, ◌+◌, ◌-◌, ◌*◌, ◌<◌, ◌≤◌, ◌⊎◌, slice_index_or}
use Rattle.iiif_pixel.proofs.fills.copy_row.Given as goal

abbrev pub invariant-loop-x : goal.invariant-loop-x
invariant-loop-x g l = record {
  here : (d : g.row.T.Denot) (x k : ℕ) → x < l.x → k < g.row.C →
      slice_index_or l.dst (l.to + (x * g.row.C + k)) d ≡ slice_index_or l.src (l.from + ((l.w - 1 - x) * g.row.C + k)) d;
  others : (d : g.row.T.Denot) (j : ℕ) → (j < l.to) ⊎ (l.to + l.w * g.row.C ≤ j) →
      slice_index_or l.dst j d ≡ slice_index_or l.initial.dst j d;
}

abbrev pub invariant-loop-i : goal.invariant-loop-i
invariant-loop-i g l = record {
  here : (d : g.row.T.Denot) (i : ℕ) → i < l.i → slice_index_or l.dst (l.to + i) d ≡ slice_index_or l.src (l.from + i) d;
  others : (d : g.row.T.Denot) (j : ℕ) → (j < l.to) ⊎ (l.to + l.w * g.row.C ≤ j) →
      slice_index_or l.dst j d ≡ slice_index_or l.initial.dst j d;
}
