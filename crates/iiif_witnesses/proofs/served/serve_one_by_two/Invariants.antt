use Rattle.std.specs.Prelude.{false, true}
use Rattle.iiif_tile_group.specs.Named.{gave_of}
use Rattle.iiif_witnesses.specs.Code.{pictures_held, Images}
use Rattle.iiif_witnesses.proofs.served.serve_one_by_two.Given as goal

-- The system of the server that is asked: what its image shows, no fault, and the first two ledgers. Each name is stable, and other nodes
-- are honest.
abbrev pub ghosts-serve_pair-J-System : goal.ghosts-serve_pair-J-System
ghosts-serve_pair-J-System g a = record {
  pictures = pictures_held a.pair.asked;
  edge = a.configs.0.edge;
  gave = gave_of (λ source fault. false) a.pair.asked;
  stable = λ name. Unit {0};
  honest = true;
  tiles_name = a.blanks.0.0.name;
  tiles_parts = a.blanks.0.0.parts;
  sums_name = a.blanks.0.1.name;
  sums_parts = a.blanks.0.1.parts;
}

-- that of the other, with the other two
abbrev pub ghosts-serve_pair-I-System : goal.ghosts-serve_pair-I-System
ghosts-serve_pair-I-System g a = record {
  pictures = pictures_held a.pair.asked;
  edge = a.configs.1.edge;
  gave = gave_of (λ source fault. false) a.pair.asked;
  stable = λ name. Unit {0};
  honest = true;
  tiles_name = a.blanks.1.0.name;
  tiles_parts = a.blanks.1.0.parts;
  sums_name = a.blanks.1.1.name;
  sums_parts = a.blanks.1.1.parts;
}
