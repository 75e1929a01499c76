use Rattle.std.proofs.Common.{◌≡◌, subst}
use Rattle.std.specs.Arc.{arc_value}
use Rattle.iiif_keys.specs.Meaning.{sum_meaning}
use Rattle.iiif_witnesses.specs.Code.{pictures_held, Images}
use Rattle.iiif_witnesses.proofs.ShownLemmas.{sums_are}
use Rattle.iiif_witnesses.proofs.pair.ask_sums.Goals as goal

pub returns-in-Ok : goal.returns-in-Ok
returns-in-Ok g c =
    let key = c.args.key.now in
    let value = arc_value c.in-Ok.answer.value in
    sums_are c.args.file.now key value
    (subst (λ (images : Images). value ≡ sum_meaning (pictures_held images) key) c.in_ok-pair.ensures.0 c.in-Ok.ensures)
