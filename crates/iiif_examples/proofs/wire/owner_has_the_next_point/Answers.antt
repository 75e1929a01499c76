use Rattle.std.proofs.Common.{[], ◌∷◌, arith, refl}
use Rattle.std.specs.Prelude.{codes}
use Rattle.iiif_ring.proofs.Owners.{alone_stands}
use Rattle.iiif_examples.specs.Files.{with_byte}
use Rattle.iiif_examples.specs.Keys.{tile_bytes}
use Rattle.iiif_examples.proofs.Computing.{wire}
use Rattle.iiif_examples.proofs.Owners.{is_first, is_second_name, owns}
use Rattle.iiif_examples.proofs.wire.owner_has_the_next_point.Goals as goal

pub returns-clause-next : goal.returns-clause-next
unfolding wire is_first
returns-clause-next c = owns (codes "p") (codes "q") tile_bytes (codes "q") 5 (is_second_name _ _) (omega arith) refl refl

pub returns-clause-round : goal.returns-clause-round
unfolding wire is_first
returns-clause-round c = owns (codes "n") (codes "m") (codes "wrap-80") (codes "m") 29 (is_second_name _ _) (omega arith) refl refl

pub returns-clause-tied : goal.returns-clause-tied
unfolding wire is_first
returns-clause-tied c =
    owns (codes "x") (codes "1x") (with_byte 10 6 tile_bytes) (codes "1x") 3 (is_second_name _ _) (omega arith) refl refl

pub returns-clause-alone : goal.returns-clause-alone
returns-clause-alone c = λ key. (alone_stands (codes "n" ∷ []) key refl).0
