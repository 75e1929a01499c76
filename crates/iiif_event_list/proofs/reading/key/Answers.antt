use Rattle.std.proofs.lemmas.Result.{err_from_is_err_and}
use Rattle.iiif_event_list.specs.Code.{HasKey, HasSum, HasTile, HasWord}
use Rattle.iiif_event_list.proofs.Bad.{bad_from, bad_on, key_word, sum_when, tile_when}
use Rattle.iiif_event_list.proofs.reading.key.Goals as goal

pub returns-in_err-word-clause-bad : goal.returns-in_err-word-clause-bad
returns-in_err-word-clause-bad c =
    let ws = c.args.words.now in
    bad_on (HasWord ws 0) (HasKey ws) c.from_residual.result c.in_err-word.field-0.0 (key_word ws) c.in_err-word.ensures.bad
    (err_from_is_err_and c.from_residual.result c.from_residual.ensures.1)

pub returns-in-tile-clause-bad : goal.returns-in-tile-clause-bad
returns-in-tile-clause-bad c =
    let ws = c.args.words.now in
    bad_from (HasTile ws) (HasKey ws) c.tile.result
    (tile_when ws c.in_ok-word.field-0.now c.in_ok-word.ensures.read c.in-tile.is) c.tile.ensures.bad

pub returns-in-sum-clause-bad : goal.returns-in-sum-clause-bad
returns-in-sum-clause-bad c =
    let ws = c.args.words.now in
    bad_from (HasSum ws) (HasKey ws) c.sum.result
    (sum_when ws c.in_ok-word.field-0.now c.in_ok-word.ensures.read c.in-sum.is) c.sum.ensures.bad
