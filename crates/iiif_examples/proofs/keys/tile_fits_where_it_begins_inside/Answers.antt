use Rattle.std.proofs.Common.{arith}
use Rattle.iiif_examples.proofs.keys.tile_fits_where_it_begins_inside.Goals as goal

pub returns-clause-inside : goal.returns-clause-inside
returns-clause-inside c = record { edge = record { some = omega arith; within = omega arith }; column = omega arith; row = omega arith }

pub returns-clause-outside : goal.returns-clause-outside
returns-clause-outside c = λ fits. omega (arith, fits.column)
