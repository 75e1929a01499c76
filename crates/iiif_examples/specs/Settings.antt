-- Settings of the worked examples.
use Rattle.std.specs.Prelude.{ℕ, false, List, codes}
use Rattle.iiif_answers.specs.Settings.{Settings}

-- the base of every URI
abbrev pub base : List ℕ
base = codes "http://localhost/iiif"

-- a server at a base, with tiles of an edge and results of at most so many columns and rows
abbrev pub serving : List ℕ → ℕ → ℕ → Settings
serving url edge most = record { base = url; edge = edge; max_w = most; max_h = most; upscale = false; band = 64; workers = 2 }
