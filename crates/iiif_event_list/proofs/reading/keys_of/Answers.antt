use Rattle.std.proofs.Common.{◌<◌, length, subst, sym, arith}
use Rattle.std.proofs.lemmas.Result.{err_from_is_err_and}
use Rattle.iiif_event_list.specs.Code.{HasKey, HasKeys}
use Rattle.iiif_event_list.proofs.Bad.{bad_on, first_key}
use Rattle.iiif_event_list.proofs.Keys.{all_keys}
use Rattle.iiif_event_list.proofs.reading.keys_of.Goals as goal

pub returns-in_err-at-clause-bad : goal.returns-in_err-at-clause-bad
returns-in_err-at-clause-bad c =
    let ws = c.args.words.now in
    let part = c.split_at.result.1.now in
    let some : 0 < length part = omega (arith, c.split_at.ensures.back_len, c.loop-at-test.true) in
    bad_on (HasKey part) (HasKeys ws) c.from_residual.result c.in_err-at.field-0.0
    (λ has. first_key part some (subst HasKeys (sym c.split_at.ensures.back) (c.loop-at.invariant.1.left has)))
    c.in_err-at.ensures.bad
    (err_from_is_err_and c.from_residual.result c.from_residual.ensures.1)

pub returns-clause-read : goal.returns-clause-read
returns-clause-read c =
    all_keys c.args.words.now c.loop-at.at c.loop-at.keys.items c.loop-at.invariant.0 (omega (arith, c.loop-at-test.false))
