use Rattle.std.proofs.Common.{refl}
use Rattle.std.specs.Prelude.{Err, Ok, codes}
use Rattle.std.proofs.lemmas.Option.{none-some}
use Rattle.iiif_request.specs.declared.request.Form.TheVariants.{Max}
use Rattle.iiif_request.specs.declared.request.Refusal.TheVariants.{Empty, Quality}
use Rattle.iiif_request.specs.declared.request.Region.TheVariants.{Pixels}
use Rattle.iiif_request.specs.Spells.{Texts}
use Rattle.iiif_request.specs.Targets.{image}
use Rattle.iiif_request.proofs.RequestLemmas.{request_of_sound}
use Rattle.iiif_request.proofs.TargetLemmas.{asked_of_sound, asked_of_complete}
use Rattle.iiif_tiff.specs.Tiff.{gray_sample}
use Rattle.iiif_answers.specs.Answers.{no_image, no_item, no_path, no_request}
use Rattle.iiif_examples.specs.Pictures.{ramp}
use Rattle.iiif_examples.specs.Replies.{ramp_item}
use Rattle.iiif_examples.specs.Requests as given
use Rattle.iiif_examples.proofs.Computing.{replies}
use Rattle.iiif_examples.proofs.Shown.{shows_picture_in}
use Rattle.iiif_examples.proofs.replies.first_check_that_fails_is_replied.Goals as goal

unnamed : Texts
unnamed = given.words (codes "bad") (codes "max") (codes "0") (codes "default") (codes "tif")

best : Texts
best = given.words (codes "full") (codes "max") (codes "0") (codes "best") (codes "jpg")

outside : Texts
outside = given.words (codes "4,0,1,1") (codes "max") (codes "0") (codes "default") (codes "tif")

pub returns-clause-path : goal.returns-clause-path
unfolding replies
returns-clause-path c = no_path (λ r h. none-some r (asked_of_complete (codes "/iiif") (codes "/iiif/a%2/full/max/0/default.tif") r h))

pub returns-clause-name : goal.returns-clause-name
unfolding replies unnamed
returns-clause-name c =
    no_item (image (codes "zz") unnamed)
    (asked_of_sound (codes "/iiif") (codes "/iiif/zz/bad/max/0/default.tif") (image (codes "zz") unnamed) refl) refl

pub returns-clause-word : goal.returns-clause-word
unfolding replies best
returns-clause-word c =
    no_request (codes "a") best ramp_item Quality
    (asked_of_sound (codes "/iiif") (codes "/iiif/a/full/max/0/best.jpg") (image (codes "a") best) refl) refl (request_of_sound best (Err
    Quality) refl)

pub returns-clause-region : goal.returns-clause-region
unfolding replies outside
returns-clause-region c =
    no_image (codes "a") outside ramp_item ramp (given.upright (Pixels 4 0 1 1) Max) Empty
    (asked_of_sound (codes "/iiif") (codes "/iiif/a/4,0,1,1/max/0/default.tif") (image (codes "a") outside) refl) refl
    (record { sides = refl; channels = refl; top = refl; shows = λ k. shows_picture_in gray_sample refl refl })
    (request_of_sound outside (Ok (given.upright (Pixels 4 0 1 1) Max)) refl) refl
