use Rattle.std.proofs.Common.{List, ℕ, length, ap, arith}
use Rattle.iiif_world.specs.Starting.{HasNodeName}
use Rattle.iiif_world.proofs.Changed.{each_more, each_all}
use Rattle.iiif_world.proofs.starting.have_node_names.Goals as goal

pub loop-setup-preserved : goal.loop-setup-preserved
loop-setup-preserved c =
    each_more HasNodeName c.args.setups.now c.loop-setup.setup-index c.setup-item.result c.loop-setup.invariant (omega arith)
    c.setup-item.is
    (omega (arith, ap (λ (n : List ℕ). length n) c.as_str.ensures.text))

pub returns-clause-yes : goal.returns-clause-yes
returns-clause-yes c = λ yes. each_all HasNodeName c.args.setups.now c.loop-setup.setup-index c.loop-setup.invariant (omega arith)
