use Rattle.std.proofs.Common.{◌≡◌, refl}
use Rattle.iiif_start.proofs.OpenedLemmas.{opened_left}
use Rattle.iiif_start.proofs.opening.open_next.Goals as goal

pub returns-in-Ok-push : goal.returns-in-Ok-push
returns-in-Ok-push g c = λ front so. rw (c.in_ok-add_image-in-Ok.ensures, c.in-Ok-push.ensures.items)
    (opened_left g.R.Opens.holds g.R.Opens.keeps c.args.opening.holding c.args.opening.skip_unfit front _ _ _ c.args.image _ so refl
    c.in-Ok.ensures.source)
