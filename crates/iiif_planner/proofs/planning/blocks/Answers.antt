use Rattle.std.proofs.Common.{◌≡◌, ℕ, List, ◌-◌, ap, sym, ◌∙◌, arith}
use Rattle.iiif_planner.specs.Items.{block_at}
use Rattle.iiif_planner.proofs.Lines.{before_first, before_pushed, before_row, before_end}
use Rattle.iiif_planner.proofs.planning.blocks.Goals as goal

pub loop-by-init : goal.loop-by-init
loop-by-init c =
    let at = block_at c.args.name.now c.args.edge c.args.region c.args.size c.args.level in
    c.in_ok-keys.ensures.items ∙ sym (before_first at c.args.squares)

pub loop-bx-preserved : goal.loop-bx-preserved
loop-bx-preserved c =
    let at = block_at c.args.name.now c.args.edge c.args.region c.args.size c.args.level in
    let named = λ (name : List ℕ). block_at name c.args.edge c.args.region c.args.size c.args.level c.loop-bx.bx c.loop-by.by in
    before_pushed at c.args.squares c.loop-bx.bx c.loop-by.by _ _ _ c.loop-bx.invariant c.in_ok-push.ensures.items
    (ap named c.in_ok-copy.ensures) c.loop-bx.auto.bx

pub loop-by-preserved : goal.loop-by-preserved
loop-by-preserved c =
    let end : c.loop-bx.bx - c.args.squares.left ≡ c.args.squares.right - c.args.squares.left = omega arith in
    let at = block_at c.args.name.now c.args.edge c.args.region c.args.size c.args.level in
    c.loop-bx.invariant ∙ before_row at c.args.squares c.loop-bx.bx c.loop-by.by end c.loop-by.auto.by

pub returns : goal.returns
returns c =
    let end : c.loop-by.by - c.args.squares.top ≡ c.args.squares.bottom - c.args.squares.top = omega arith in
    let at = block_at c.args.name.now c.args.edge c.args.region c.args.size c.args.level in
    c.loop-by.invariant ∙ before_end at c.args.squares c.loop-by.by end
