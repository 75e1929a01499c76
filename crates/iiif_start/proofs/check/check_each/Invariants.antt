use Rattle.std.proofs.Common.{◌≡◌, map, take}
use Rattle.iiif_start.proofs.check.check_each.Given as goal

-- the images that were looked at are the first ones
abbrev pub invariant-loop-image : goal.invariant-loop-image
invariant-loop-image g l = map (λ c. c.name.now) l.all.items ≡ map (λ i. i.0.now) (take l.image-index l.images)
