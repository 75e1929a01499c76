use Rattle.std.proofs.Common.{◌≡◌, ◌+◌}
use Rattle.std.specs.List.{sum_by}
use Rattle.iiif_singleflight.specs.View.{cells_of, table_of}
use Rattle.iiif_singleflight.proofs.group_state.GroupState.gather.Given as goal

abbrev pub invariant-loop-pass : goal.invariant-loop-pass
invariant-loop-pass g l = (l.self.parts ≡ l.initial.self.parts + sum_by (λ p. p.parts) l.yielded) ×
    (l.self.gets ≡ l.initial.self.gets + sum_by (λ p. p.gets) l.yielded) ×
    (table_of g.K.PartialEq.eq l.self.table ≡ table_of g.K.PartialEq.eq l.initial.self.table) ×
    (cells_of g.K.PartialEq.eq l.self.table ≡ cells_of g.K.PartialEq.eq l.initial.self.table)
