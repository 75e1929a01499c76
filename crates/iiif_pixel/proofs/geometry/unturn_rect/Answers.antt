use Rattle.std.proofs.Common.{◌≡◌, ◌-◌, refl, ap, ◌∙◌, arith}
use Rattle.iiif_pixel.specs.Operations.{mirrored, quarter_turned}
use Rattle.iiif_pixel.specs.declared.geometry.Rect.{Rect}
use Rattle.iiif_pixel.proofs.CropLaws.{mirrored_part, part_after_one, part_after_two, part_after_three}
use Rattle.iiif_pixel.proofs.TurnLemmas.{turned_place_moves}
use Rattle.iiif_pixel.proofs.geometry.unturn_rect.Goals as goal
use Rattle.iiif_pixel.proofs.geometry.unturn_rect.Goals.{in-0, in-1, in-2, in_default}

pub returns-else-by-clause-same_part : goal.returns-else-by-clause-same_part
returns-else-by-clause-same_part c = λ p ew eh.
    let r = c.args.rect in
    elim c.match-by.branch [
      | in-0 w ↦ rw (w.x-is, c.if-by.false, w.in-0.is) refl
      | in-1 w ↦
          let inside = rw w.in-1.is at c.requires.inside in
          rw (w.x-is, c.if-by.false, w.in-1.is, ← eh) (part_after_one p r (omega arith) (omega arith))
      | in-2 w ↦
          let inside = rw w.in-2.is at c.requires.inside in
          rw (w.x-is, c.if-by.false, w.in-2.is, ← ew, ← eh) (part_after_two p r (omega arith) (omega arith))
      | in_default w ↦
          let three : c.args.by.quarters ≡ 3 = omega arith in
          let inside = rw three at c.requires.inside in
          rw (w.x-is, c.if-by.false, three, ← ew) (part_after_three p r (omega arith) (omega arith))
    ]

pub returns-then-by-clause-same_part : goal.returns-then-by-clause-same_part
returns-then-by-clause-same_part c = λ p ew eh.
    let r = c.args.rect in
    elim c.match-by.branch [
      | in-0 w ↦
          let inside = rw w.in-0.is at c.requires.inside in
          rw (w.x-is, c.if-by.true, w.in-0.is, ← ew) (mirrored_part p r (omega arith) (omega arith))
      | in-1 w ↦
          let inside = rw w.in-1.is at c.requires.inside in
          let from : Rect = record { x = r.y; y = p.height - r.x - r.w; w = r.h; h = r.w } in
          rw (w.x-is, c.if-by.true, w.in-1.is, ← ew, ← eh)
          (ap quarter_turned (mirrored_part p from (omega arith) (omega arith)) ∙ part_after_one (mirrored p) r (omega arith) (omega arith))
      | in-2 w ↦
          let inside = rw w.in-2.is at c.requires.inside in
          let from : Rect = record { x = p.width - r.x - r.w; y = p.height - r.y - r.h; w = r.w; h = r.h } in
          rw (w.x-is, c.if-by.true, w.in-2.is, ← ew, ← eh)
          (ap (λ q. quarter_turned (quarter_turned q)) (mirrored_part p from (omega arith) (omega arith)) ∙
          part_after_two (mirrored p) r (omega arith) (omega arith))
      | in_default w ↦
          let three : c.args.by.quarters ≡ 3 = omega arith in
          let inside = rw three at c.requires.inside in
          let from : Rect = record { x = p.width - r.y - r.h; y = r.x; w = r.h; h = r.w } in
          rw (w.x-is, c.if-by.true, three, ← ew)
          (ap (λ q. quarter_turned (quarter_turned (quarter_turned q))) (mirrored_part p from (omega arith) (omega arith)) ∙
          part_after_three (mirrored p) r (omega arith) (omega arith))
    ]

pub returns-else-by-clause-moves : goal.returns-else-by-clause-moves
returns-else-by-clause-moves c = λ x y lx ly. turned_place_moves c.args.by c.args.dim x y c.requires.quarters lx ly

pub returns-then-by-clause-moves : goal.returns-then-by-clause-moves
returns-then-by-clause-moves c = λ x y lx ly. turned_place_moves c.args.by c.args.dim x y c.requires.quarters lx ly
