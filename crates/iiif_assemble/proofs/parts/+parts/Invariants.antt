use Rattle.std.proofs.Common.{◌*◌, ◌+◌, length, take}
use Rattle.iiif_assemble.specs.Opening.{AreValuesOf}
use Rattle.iiif_assemble.proofs.parts.+parts.Given as goal

-- the parts so far
abbrev pub invariant-ask_in_turn-loop-part : goal.invariant-ask_in_turn-loop-part
invariant-ask_in_turn-loop-part g l = AreValuesOf (g.G.Items.means l.pool.group.now) (take l.part-index l.parts) l.values.items

-- parts have lower ranks, and each worker has fewer of them than all together
abbrev pub decreases-ask : goal.decreases-ask
decreases-ask g l = 16 * g.G.Items.rank l.pool.now.group.now l.key.now + 15

abbrev pub decreases-share : goal.decreases-share
decreases-share g l = 16 * g.G.Items.rank l.pool.now.group.now l.key.now + 2 * length l.parts.now + 3

abbrev pub decreases-ask_in_turn : goal.decreases-ask_in_turn
decreases-ask_in_turn g l = 16 * g.G.Items.rank l.pool.now.group.now l.key.now + 1

abbrev pub decreases-help : goal.decreases-help
decreases-help g l = 16 * g.G.Items.rank l.pool.now.group.now l.key.now + 2

abbrev pub decreases-share-join+arg2 : goal.decreases-share-join+arg2
decreases-share-join+arg2 g l = 16 * g.G.Items.rank l.pool.now.group.now l.key.now + 3

abbrev pub decreases-share-join+arg3 : goal.decreases-share-join+arg3
decreases-share-join+arg3 g l = 16 * g.G.Items.rank l.pool.now.group.now l.key.now + 2 * length l.front.now + 4
