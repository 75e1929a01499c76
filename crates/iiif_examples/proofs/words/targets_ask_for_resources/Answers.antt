use Rattle.std.proofs.Common.{refl}
use Rattle.std.specs.Prelude.{codes}
use Rattle.iiif_request.specs.Targets.{base, image, information}
use Rattle.iiif_request.proofs.TargetLemmas.{asked_of_sound}
use Rattle.iiif_examples.specs.Requests as given
use Rattle.iiif_examples.proofs.Computing.{words}
use Rattle.iiif_examples.proofs.words.targets_ask_for_resources.Goals as goal

pub returns-clause-base : goal.returns-clause-base
unfolding words
returns-clause-base c = asked_of_sound (codes "/iiif") (codes "/iiif/a") (base (codes "a")) refl

pub returns-clause-information : goal.returns-clause-information
unfolding words
returns-clause-information c = asked_of_sound (codes "/iiif") (codes "/iiif/a/info.json?full/max") (information (codes "a")) refl

pub returns-clause-image : goal.returns-clause-image
unfolding words
returns-clause-image c =
    asked_of_sound (codes "/iiif") (codes "/iiif/a%2Fb/full/%5E2,/0/default.tif")
    (image (codes "a/b") (given.words (codes "full") (codes "^2,") (codes "0") (codes "default") (codes "tif"))) refl

pub returns-clause-empty_format : goal.returns-clause-empty_format
unfolding words
returns-clause-empty_format c =
    asked_of_sound (codes "") (codes "/a/full/max/0/default")
    (image (codes "a") (given.words (codes "full") (codes "max") (codes "0") (codes "default") (codes ""))) refl
