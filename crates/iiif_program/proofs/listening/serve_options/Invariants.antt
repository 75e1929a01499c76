use Rattle.std.specs.Prelude.{true, false}
use Rattle.iiif_tile_group.specs.Named.{gave_of, pictures_of, stable_of}
use Rattle.iiif_start.specs.Stored.{bytes_of, keeps_of, stored_gave}
use Rattle.iiif_program.proofs.listening.serve_options.Given as goal

-- what the catalogue shows, and the ledgers that were just made; no other node is asked
abbrev pub ghosts-serve_alone : goal.ghosts-serve_alone
ghosts-serve_alone g a = record {
  pictures = pictures_of (bytes_of g.R.Opens.holds) a.made.catalogue;
  edge = a.made.config.edge;
  gave = gave_of stored_gave a.made.catalogue;
  stable = stable_of (keeps_of g.R.Opens.keeps) a.made.catalogue;
  honest = true;
  tiles_name = a.blanks.0.name;
  tiles_parts = a.blanks.0.parts;
  sums_name = a.blanks.1.name;
  sums_parts = a.blanks.1.parts;
}

-- the same; of other nodes nothing is promised
abbrev pub ghosts-serve_among : goal.ghosts-serve_among
ghosts-serve_among g a = record {
  pictures = pictures_of (bytes_of g.R.Opens.holds) a.made.catalogue;
  edge = a.made.config.edge;
  gave = gave_of stored_gave a.made.catalogue;
  stable = stable_of (keeps_of g.R.Opens.keeps) a.made.catalogue;
  honest = false;
  tiles_name = a.blanks.0.name;
  tiles_parts = a.blanks.0.parts;
  sums_name = a.blanks.1.name;
  sums_parts = a.blanks.1.parts;
}
