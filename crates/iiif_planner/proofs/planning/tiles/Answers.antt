use Rattle.std.proofs.Common.{◌≡◌, ◌-◌, sym, ◌∙◌, arith}
use Rattle.iiif_planner.specs.Items.{tile_at}
use Rattle.iiif_planner.proofs.Lines.{before_first, before_pushed, before_row, before_end}
use Rattle.iiif_planner.proofs.planning.tiles.Goals as goal

pub loop-ty-init : goal.loop-ty-init
loop-ty-init c = c.in_ok-keys.ensures.items ∙ sym (before_first (tile_at c.args.name.now c.args.edge) c.args.squares)

pub loop-tx-preserved : goal.loop-tx-preserved
loop-tx-preserved c =
    let at = tile_at c.args.name.now c.args.edge in
    before_pushed at c.args.squares c.loop-tx.tx c.loop-ty.ty _ _ _ c.loop-tx.invariant c.in_ok-push.ensures.items
    c.in_ok-tile_at.ensures c.loop-tx.auto.tx

pub loop-ty-preserved : goal.loop-ty-preserved
loop-ty-preserved c =
    let end : c.loop-tx.tx - c.args.squares.left ≡ c.args.squares.right - c.args.squares.left = omega arith in
    c.loop-tx.invariant ∙ before_row (tile_at c.args.name.now c.args.edge) c.args.squares c.loop-tx.tx c.loop-ty.ty end c.loop-ty.auto.ty

pub returns : goal.returns
returns c =
    let end : c.loop-ty.ty - c.args.squares.top ≡ c.args.squares.bottom - c.args.squares.top = omega arith in
    c.loop-ty.invariant ∙ before_end (tile_at c.args.name.now c.args.edge) c.args.squares c.loop-ty.ty end
