use Rattle.std.proofs.Common.{map, take}
use Rattle.iiif_start.specs.Opened.{AreOpened}
use Rattle.iiif_start.proofs.opening.open_images.Given as goal

-- the first images are opened
abbrev pub invariant-loop-image : goal.invariant-loop-image
invariant-loop-image g l =
    AreOpened g.R.Opens.holds g.R.Opens.keeps l.opening.holding l.opening.skip_unfit (take l.image-index l.images) l.opened.catalogue
    l.opened.served.items (map (λ u. u.0) l.opened.unfit.items)
