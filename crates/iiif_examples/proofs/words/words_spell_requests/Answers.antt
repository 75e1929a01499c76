use Rattle.std.proofs.Common.{refl}
use Rattle.std.specs.Prelude.{codes}
use Rattle.iiif_request.proofs.RequestLemmas.{request_of_sound}
use Rattle.iiif_examples.specs.Requests as given
use Rattle.iiif_examples.proofs.Computing.{words}
use Rattle.iiif_examples.proofs.words.words_spell_requests.Goals as goal

pub returns-clause-plain : goal.returns-clause-plain
unfolding words
returns-clause-plain c = request_of_sound (given.words (codes "full") (codes "max") (codes "0") (codes "default") (codes "tif")) _ refl

pub returns-clause-pixels : goal.returns-clause-pixels
unfolding words
returns-clause-pixels c = request_of_sound (given.words (codes "0,00,9,09") (codes "2,") (codes "90") (codes "color") (codes "tif")) _ refl

pub returns-clause-percents : goal.returns-clause-percents
unfolding words
returns-clause-percents c =
    request_of_sound (given.words (codes "pct:25,0.5,50.0,7") (codes "^!2,9") (codes "!270") (codes "gray") (codes "tif")) _ refl
