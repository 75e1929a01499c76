use Rattle.std.proofs.Common.{rules}
use Rattle.iiif_answers.proofs.SettingsLemmas.{legal}
use Rattle.iiif_answers.proofs.config.Config.new.Goals as goal

pub invariant_of-result : goal.invariant_of-result
invariant_of-result c =
    rw c.in-Ok.ensures.ok (legal _ (search rules))
