use Rattle.std.proofs.Common.{◌≡◌, take}
use Rattle.iiif_io.specs.Counting.{capped}
use Rattle.iiif_start.specs.Held.{all_bytes_held, images_held}
use Rattle.iiif_start.proofs.held.Held.among.Given as goal

-- what is held of the first images
abbrev pub invariant-loop-image : goal.invariant-loop-image
invariant-loop-image g l =
    (l.held.images ≡ capped (images_held l.catalogue (take l.image-index l.images)))
    × (l.held.bytes ≡ capped (all_bytes_held l.catalogue (take l.image-index l.images)))
