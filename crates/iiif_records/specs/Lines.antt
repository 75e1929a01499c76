-- Lines of a record.
use Rattle.std.specs.Prelude.{ℕ, ◌+◌, ◌/◌, ◌%◌, nat_lt, List, [], ◌∷◌, ◌++◌, Option, Some, None, codes, decimal}
use Rattle.std.specs.Prelude.{if◌then◌else◌}
use Rattle.std.specs.List.{flat_map}
use Rattle.iiif_tables.specs.declared.table.Class.{Class}
use Rattle.iiif_tables.specs.declared.table.Class.TheVariants.{Wide, Local}

-- a hexadecimal digit
abbrev pub hex_digit : ℕ → ℕ
hex_digit n = if nat_lt n 10 then 48 + n else 87 + n

abbrev pub hex_of : ℕ → List ℕ
hex_of b = hex_digit (b / 16) ∷ hex_digit (b % 16) ∷ []

-- the class of a call, which asks other nodes or doesn't
abbrev pub class_word : Class → List ℕ
class_word Wide = codes "wide"
class_word Local = codes "local"

-- the number of a flight, behind a space; nothing, where there is none
abbrev pub ticket_words : Option ℕ → List ℕ
ticket_words None = []
ticket_words (Some n) = codes " " ++ decimal n

-- a step: its words, the class, the number of the flight, and the key's bytes in hexadecimal
abbrev pub step_line : List ℕ → Class → Option ℕ → List ℕ → List ℕ
step_line step class ticket key = step ++ codes " " ++ class_word class ++ ticket_words ticket ++ codes " " ++ flat_map hex_of key

-- the line of a record: the number of the pass that counts the call, and the step
abbrev pub record_line : ℕ → List ℕ → Class → Option ℕ → List ℕ → List ℕ
record_line pass step class ticket key = decimal pass ++ codes " " ++ step_line step class ticket key ++ codes "\n"
