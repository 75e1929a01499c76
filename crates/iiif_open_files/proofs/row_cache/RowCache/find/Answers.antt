use Rattle.std.proofs.Common.{◌≤◌, length, ap, arith}
use Rattle.std.specs.Arc.{arc_value}
use Rattle.iiif_open_files.specs.Kept.{size_of}
use Rattle.iiif_open_files.proofs.Moving.{all_moved, moved_is}
use Rattle.iiif_open_files.proofs.row_cache.RowCache.find.Goals as goal

pub invariant_of-self-clause-small : goal.invariant_of-self-clause-small
invariant_of-self-clause-small g c =
    all_moved (λ w. size_of (arc_value w) ≤ g.row.ROOM) c.args.self.now.rows c.deref_mut.result.now c.rotate_left.new.self
    c.in-Some.place c.in-Some.found c.deref_mut.ensures.value c.deref_mut.ensures.len c.in-Some.ensures.place
    c.rotate_left.ensures.after c.args.self.now.small

pub returns-in-Some-clause-used : goal.returns-in-Some-clause-used
returns-in-Some-clause-used g c = record {
  place = c.in-Some.place;
  below = omega (arith, ap length c.deref_mut.ensures.value, c.deref_mut.ensures.len, c.in-Some.ensures.place);
  of_it = c.in-Some.ensures.there;
  moved = λ d. moved_is c.args.self.now.rows c.deref_mut.result.now c.rotate_left.new.self c.in-Some.place d
      c.deref_mut.ensures.value c.deref_mut.ensures.len c.in-Some.ensures.place c.rotate_left.ensures.after;
}
