-- The ledgers that count the calls of a node's groups.
--
--   part   a share of a ledger, which a pass carries
use Rattle.std.specs.Prelude.{ℕ}

-- The parts of the ledger of a group: one for each of the 65,536 passes that can be lent, and one that stays with the group.
abbrev pub all_parts : ℕ
all_parts = 65537
