use Rattle.std.proofs.Common.{refl}
use Rattle.std.specs.Prelude.{codes}
use Rattle.iiif_request.specs.Targets.{base, information}
use Rattle.iiif_request.proofs.TargetLemmas.{asked_of_sound}
use Rattle.iiif_tiff.specs.Tiff.{gray_sample}
use Rattle.iiif_answers.specs.Answers.{of_base, of_information}
use Rattle.iiif_examples.specs.Pictures.{ramp}
use Rattle.iiif_examples.specs.Replies.{ramp_item}
use Rattle.iiif_examples.proofs.Computing.{replies}
use Rattle.iiif_examples.proofs.Shown.{shows_picture_in}
use Rattle.iiif_examples.proofs.replies.base_uri_and_information_have_replies.Goals as goal

pub returns-clause-base : goal.returns-clause-base
unfolding replies
returns-clause-base c = of_base (codes "a") ramp_item (asked_of_sound (codes "/iiif") (codes "/iiif/a") (base (codes "a")) refl) refl

pub returns-clause-information : goal.returns-clause-information
unfolding replies
returns-clause-information c =
    of_information (codes "a") ramp_item ramp (asked_of_sound (codes "/iiif") (codes "/iiif/a/info.json") (information (codes "a")) refl)
    refl
    (record { sides = refl; channels = refl; top = refl; shows = λ k. shows_picture_in gray_sample refl refl })
