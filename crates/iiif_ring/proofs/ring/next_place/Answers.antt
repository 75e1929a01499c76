use Rattle.iiif_ring.proofs.Next.{next_ahead, next_round}
use Rattle.iiif_ring.proofs.ring.next_place.Goals as goal

pub returns-in-Some-clause-next : goal.returns-in-Some-clause-next
returns-in-Some-clause-next c = next_ahead c.args.points.now c.args.from c.in-Some.field-0-0.now c.in-Some.place.now c.requires
    c.ranges.from.fits c.range.result c.next.new.self (c.range.ensures.in_range tt) c.in-Some.ensures.steps

pub returns-in-Some-first_key_value-clause-next : goal.returns-in-Some-first_key_value-clause-next
returns-in-Some-first_key_value-clause-next c = let first = c.in-Some-first_key_value.ensures in
    next_round c.args.points.now c.args.from c.in-Some-first_key_value.field-0-0.now c.in-Some-first_key_value.place.now c.requires
    c.ranges.from.fits c.range.result (c.range.ensures.in_range tt) c.in-None.ensures.steps.0 first.value first.least
