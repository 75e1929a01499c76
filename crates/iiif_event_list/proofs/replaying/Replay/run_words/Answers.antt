use Rattle.std.proofs.Common.{refl, rules, []}
use Rattle.iiif_event_list.specs.Replays.{set}
use Rattle.iiif_event_list.proofs.replaying.Replay.run_words.Goals as goal

pub returns-then-branch-clause-comes : goal.returns-then-branch-clause-comes
returns-then-branch-clause-comes c = ([], set (search rules) c.nothing.ensures.fine refl)
