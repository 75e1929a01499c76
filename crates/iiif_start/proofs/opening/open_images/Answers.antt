use Rattle.std.proofs.Common.{rules, ◌≡◌, ◌<◌, length, refl, take}
use Rattle.std.proofs.lemmas.List.{get_or_default}
use Rattle.iiif_start.specs.Parts.{Parts}
use Rattle.iiif_start.proofs.OpenedLemmas.{opened_next}
use Rattle.iiif_start.proofs.opening.open_images.Goals as goal

pub loop-image-init : goal.loop-image-init
loop-image-init g c = rw (c.new-opened.ensures.catalogue, c.new-opened.ensures.served, c.new-opened.ensures.unfit)
    (record { names = refl; items = tt; each = Parts.none; all = λ e. refl })

pub loop-image-preserved : goal.loop-image-preserved
loop-image-preserved g c =
    let below : c.loop-image.image-index < length c.args.images.now = search rules in
    opened_next g.R.Opens.holds g.R.Opens.keeps c.args.opening.holding c.args.opening.skip_unfit c.args.images.now c.loop-image.image-index
    _ _ _ _ (c.in_ok-open_next.ensures (take c.loop-image.image-index c.args.images.now) c.loop-image.invariant) below
    (get_or_default _ _ _ _ below)
