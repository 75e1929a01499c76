use Rattle.std.specs.Prelude.{true}
use Rattle.iiif_tile_group.specs.Named.{gave_of, pictures_of, stable_of}
use Rattle.iiif_start.specs.Stored.{bytes_of, keeps_of, stored_gave}
use Rattle.iiif_program.proofs.alone.answer_alone.Given as goal

-- what the catalogue shows, and the ledgers that were just made; no other node is asked
abbrev pub ghosts-answer_counted : goal.ghosts-answer_counted
ghosts-answer_counted g a = record {
  pictures = pictures_of (bytes_of g.R.Opens.holds) a.alone.catalogue;
  edge = a.alone.config.edge;
  gave = gave_of stored_gave a.alone.catalogue;
  stable = stable_of (keeps_of g.R.Opens.keeps) a.alone.catalogue;
  honest = true;
  tiles_name = a.blanks.0.name;
  tiles_parts = a.blanks.0.parts;
  sums_name = a.blanks.1.name;
  sums_parts = a.blanks.1.parts;
}
