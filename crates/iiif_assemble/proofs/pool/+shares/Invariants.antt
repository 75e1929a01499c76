use Rattle.std.proofs.Common.{◌*◌, ◌+◌, length}
use Rattle.iiif_assemble.proofs.pool.+shares.Given as goal

-- each of two workers has fewer items than both
abbrev pub decreases-share_out : goal.decreases-share_out
decreases-share_out g l = 4 * length l.items.now + 3

abbrev pub decreases-split : goal.decreases-split
decreases-split g l = 4 * length l.items.now + 2

abbrev pub decreases-help : goal.decreases-help
decreases-help g l = 4 * length l.items.now + 4

abbrev pub decreases-split-join+arg2 : goal.decreases-split-join+arg2
decreases-split-join+arg2 g l = 4 * length l.theirs.now + 5

abbrev pub decreases-split-join+arg3 : goal.decreases-split-join+arg3
decreases-split-join+arg3 g l = 4 * length l.mine.now + 5
