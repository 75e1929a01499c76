use Rattle.std.proofs.Common.{refl}
use Rattle.std.specs.Prelude.{Ok, codes}
use Rattle.iiif_request.specs.Spells.{Texts}
use Rattle.iiif_request.specs.Targets.{image}
use Rattle.iiif_request.proofs.RequestLemmas.{request_of_sound}
use Rattle.iiif_request.proofs.TargetLemmas.{asked_of_sound}
use Rattle.iiif_tiff.specs.Tiff.{gray_sample}
use Rattle.iiif_answers.specs.Answers.{of_image}
use Rattle.iiif_examples.specs.Replies.{half_turned}
use Rattle.iiif_examples.specs.Requests as given
use Rattle.iiif_examples.proofs.Computing.{replies}
use Rattle.iiif_examples.proofs.Shown.{shows_picture_in}
use Rattle.iiif_examples.proofs.replies.target_has_its_image.Goals as goal

asked : Texts
asked = given.words (codes "full") (codes "2,") (codes "90") (codes "default") (codes "tif")

written : Texts
written = given.words (codes "full") (codes "2,2") (codes "90") (codes "default") (codes "tif")

pub returns : goal.returns
unfolding replies asked written
returns c =
    of_image (codes "a") asked half_turned
    (asked_of_sound (codes "/iiif") (codes "/iiif/a/full/2,/90/default.tif") (image (codes "a") asked) refl) refl
    (record {
      is_picture = record { sides = refl; channels = refl; top = refl; shows = λ k. shows_picture_in gray_sample refl refl };
      says = request_of_sound asked (Ok half_turned.request) refl;
      is_image = refl;
      sent = record { sides = refl; same = λ k. refl };
      is_canonical = refl;
      spelled = (written, request_of_sound written (Ok half_turned.canonical) refl);
    })
