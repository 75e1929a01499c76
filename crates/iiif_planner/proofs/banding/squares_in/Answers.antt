use Rattle.std.proofs.Common.{◌≡◌, ◌-◌, ap, sym, ◌∙◌, arith}
use Rattle.iiif_pixel.specs.declared.geometry.Rect.{Rect}
use Rattle.iiif_planner.specs.declared.squares.Squares.{Squares}
use Rattle.iiif_planner.specs.Items.{each_square, squares_met}
use Rattle.iiif_planner.specs.Code.{place_among, source_of}
use Rattle.iiif_planner.proofs.Backwards.{first_later}
use Rattle.iiif_planner.proofs.Lines.{before_first, before_pushed, before_row, before_end}
use Rattle.iiif_planner.proofs.banding.squares_in.Goals as goal

pub loop-row-init : goal.loop-row-init
loop-row-init c = c.in_ok-items.ensures.items ∙ sym (before_first (place_among c.met-all.result) c.met-some.result)

pub place-requires-clause-columns : goal.place-requires-clause-columns
place-requires-clause-columns c =
    let all = ap (λ (s : Squares). s.left) c.met-all.ensures.squares in
    let some = ap (λ (s : Squares). s.left) c.met-some.ensures.squares in
    let later = first_later c.args.side c.args.region.x c.source_of.result.x c.requires.side c.source_of.ensures.columns.0 in
    let here = c.loop-column.auto.column in
    (c.met-all.ensures.columns, omega (arith, all, some, later, here))

pub place-requires-clause-rows : goal.place-requires-clause-rows
place-requires-clause-rows c =
    let all = ap (λ (s : Squares). s.top) c.met-all.ensures.squares in
    let some = ap (λ (s : Squares). s.top) c.met-some.ensures.squares in
    let later = first_later c.args.side c.args.region.y c.source_of.result.y c.requires.side c.source_of.ensures.rows.0 in
    let here = c.loop-row.auto.row in
    omega (arith, all, some, later, here)

pub loop-column-preserved : goal.loop-column-preserved
loop-column-preserved c =
    before_pushed (place_among c.met-all.result) c.met-some.result c.loop-column.column c.loop-row.row _ _ _ c.loop-column.invariant
    c.in_ok-push.ensures.items c.place.ensures c.loop-column.auto.column

pub loop-row-preserved : goal.loop-row-preserved
loop-row-preserved c =
    let end : c.loop-column.column - c.met-some.result.left ≡ c.met-some.result.right - c.met-some.result.left =
    omega (arith, c.met-some.ensures.columns) in
    c.loop-column.invariant ∙ before_row (place_among c.met-all.result) c.met-some.result c.loop-column.column c.loop-row.row end
    c.loop-row.auto.row

pub returns : goal.returns
returns c =
    let end : c.loop-row.row - c.met-some.result.top ≡ c.met-some.result.bottom - c.met-some.result.top = omega arith in
    let source = source_of c.args.region c.args.size c.args.part in
    c.loop-row.invariant ∙ before_end (place_among c.met-all.result) c.met-some.result c.loop-row.row end
    ∙ ap (λ (s : Squares). each_square (place_among c.met-all.result) s) c.met-some.ensures.squares
    ∙ ap (λ (r : Rect). each_square (place_among c.met-all.result) (squares_met c.args.side r)) c.source_of.ensures.source
    ∙ ap (λ (s : Squares). each_square (place_among s) (squares_met c.args.side source)) c.met-all.ensures.squares
