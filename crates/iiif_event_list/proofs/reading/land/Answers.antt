use Rattle.std.proofs.Common.{codes, if◌then◌else◌}
use Rattle.std.proofs.lemmas.Result.{err_from_is_err_and}
use Rattle.iiif_event_list.specs.Code.{HasLand, HasWord}
use Rattle.iiif_event_list.proofs.Bad.{bad_on}
use Rattle.iiif_event_list.proofs.reading.land.Goals as goal

pub returns-in_err-word-clause-bad : goal.returns-in_err-word-clause-bad
returns-in_err-word-clause-bad c =
    let ws = c.args.words.now in
    bad_on (HasWord ws 2) (HasLand ws) c.from_residual-in_err-word.result c.in_err-word.field-0.0
    (λ h. (if h.2 then codes "kept" else codes "dropped", h.3)) c.in_err-word.ensures.bad
    (err_from_is_err_and c.from_residual-in_err-word.result c.from_residual-in_err-word.ensures.1)
