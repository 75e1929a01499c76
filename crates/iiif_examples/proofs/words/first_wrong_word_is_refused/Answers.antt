use Rattle.std.proofs.Common.{refl}
use Rattle.std.specs.Prelude.{codes}
use Rattle.iiif_request.proofs.RequestLemmas.{request_of_sound}
use Rattle.iiif_examples.specs.Requests as given
use Rattle.iiif_examples.proofs.Computing.{words}
use Rattle.iiif_examples.proofs.words.first_wrong_word_is_refused.Goals as goal

pub returns-clause-region : goal.returns-clause-region
unfolding words
returns-clause-region c = request_of_sound (given.words (codes "bad") (codes "bad") (codes "0") (codes "default") (codes "tif")) _ refl

pub returns-clause-three : goal.returns-clause-three
unfolding words
returns-clause-three c = request_of_sound (given.words (codes "1,2,3") (codes "max") (codes "0") (codes "default") (codes "tif")) _ refl

pub returns-clause-ten : goal.returns-clause-ten
unfolding words
returns-clause-ten c = request_of_sound (given.words (codes "0,0,1,1234567890") (codes "max") (codes "0") (codes "default") (codes "tif"))
    _ refl

pub returns-clause-size : goal.returns-clause-size
unfolding words
returns-clause-size c = request_of_sound (given.words (codes "full") (codes "full") (codes "0") (codes "default") (codes "tif")) _ refl

pub returns-clause-rotation : goal.returns-clause-rotation
unfolding words
returns-clause-rotation c = request_of_sound (given.words (codes "full") (codes "max") (codes "45") (codes "best") (codes "tif")) _ refl

pub returns-clause-turn : goal.returns-clause-turn
unfolding words
returns-clause-turn c = request_of_sound (given.words (codes "full") (codes "max") (codes "361") (codes "default") (codes "tif")) _ refl

pub returns-clause-quality : goal.returns-clause-quality
unfolding words
returns-clause-quality c = request_of_sound (given.words (codes "full") (codes "max") (codes "0.0") (codes "best") (codes "jpg")) _ refl

pub returns-clause-format : goal.returns-clause-format
unfolding words
returns-clause-format c = request_of_sound (given.words (codes "full") (codes "max") (codes "360") (codes "default") (codes "jpg")) _ refl
