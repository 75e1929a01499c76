-- What is said of images.
use Rattle.std.specs.Prelude.{ℕ, List, ◌++◌, codes, decimal}
use Rattle.iiif_log.specs.Escapes.{escaped}

-- of one of this name that can't be served: a line with its name as a word and the number of its fault, and a line that says what to do
abbrev pub unfit_lines : List ℕ → ℕ → List ℕ → List ℕ
unfit_lines name number remedy = codes "image " ++ escaped name ++ codes ": " ++ decimal number ++ codes "\n" ++ remedy ++ codes "\n"
