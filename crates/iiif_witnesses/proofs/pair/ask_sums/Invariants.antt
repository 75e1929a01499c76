use Rattle.std.specs.Prelude.{false, true}
use Rattle.iiif_tile_group.specs.Named.{gave_of}
use Rattle.iiif_witnesses.specs.Code.{pictures_held}
use Rattle.iiif_witnesses.proofs.pair.ask_sums.Given as goal

-- The system of the node that is asked: what its image shows, no fault, and the first two ledgers. Each name is stable, and other nodes are
-- honest.
abbrev pub ghosts-sums_of-J-System : goal.ghosts-sums_of-J-System
ghosts-sums_of-J-System g a = record {
  pictures = pictures_held a.pair.asked;
  edge = a.pair.edge;
  gave = gave_of (λ source fault. false) a.pair.asked;
  stable = λ name. Unit {0};
  honest = true;
  tiles_name = a.blanks.0.0.name;
  tiles_parts = a.blanks.0.0.parts;
  sums_name = a.blanks.0.1.name;
  sums_parts = a.blanks.0.1.parts;
}

-- that of the other, with the other two
abbrev pub ghosts-sums_of-I-System : goal.ghosts-sums_of-I-System
ghosts-sums_of-I-System g a = record {
  pictures = pictures_held a.pair.asked;
  edge = a.pair.edge;
  gave = gave_of (λ source fault. false) a.pair.asked;
  stable = λ name. Unit {0};
  honest = true;
  tiles_name = a.blanks.1.0.name;
  tiles_parts = a.blanks.1.0.parts;
  sums_name = a.blanks.1.1.name;
  sums_parts = a.blanks.1.1.parts;
}
