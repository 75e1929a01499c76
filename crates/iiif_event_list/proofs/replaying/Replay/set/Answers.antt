use Rattle.std.proofs.Common.{◌≡◌, true, IfOk, subst, sym}
use Rattle.iiif_event_list.specs.Replays.{Sets}
use Rattle.iiif_event_list.specs.declared.replaying.State.{State}
use Rattle.iiif_event_list.specs.declared.replaying.State.TheVariants.{Described}
use Rattle.iiif_event_list.proofs.replaying.Replay.set.Goals as goal

pub returns-in-Described-clause-yes : goal.returns-in-Described-clause-yes
returns-in-Described-clause-yes c =
    subst (λ (s : State). IfOk c.set.result (λ set. set ≡ true → Sets c.args.words.now s (Described c.set.new.self)))
    (sym c.in-Described.is) c.set.ensures.yes
