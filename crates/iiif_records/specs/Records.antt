-- Records of nodes, beside what the machine's nodes write in a replay.
use Rattle.std.specs.Prelude.{◌≡◌, ◌<◌, ℕ, ◌==◌, nat_lt, Bool, false, ◌&&◌, List, [], ◌∷◌, ◌++◌, length, take, drop, codes, decimal}
use Rattle.std.specs.Prelude.{if◌then◌else◌}
use Rattle.std.specs.Cmp.Lexicographic.{pointwise}
use Rattle.std.specs.List.{flat_map, list_any}
use Rattle.std.specs.declared.vec.Vec.{Vec}

-- the lines of a text whose next line begins with these bytes, each without the line feed that ends it: behind the last line feed is none
abbrev pub lines_behind : List ℕ → List ℕ → List (List ℕ)
lines_behind line [] = []
lines_behind line (b ∷ more) = if b == 10 then line ∷ lines_behind [] more else lines_behind (line ++ b ∷ []) more

abbrev pub lines : List ℕ → List (List ℕ)
lines text = lines_behind [] text

abbrev pub begins : List ℕ → List ℕ → Bool
begins mark line = pointwise (λ a b. a == b) (take (length mark) line) mark

-- the line behind this mark, where it begins with it; else nothing
abbrev pub unmarked : List ℕ → List ℕ → List ℕ
unmarked mark line = if begins mark line then drop (length mark) line ++ 10 ∷ [] else []

-- what stands behind this mark in the lines of a text that begin with it
abbrev pub marked : List ℕ → List ℕ → List ℕ
marked mark text = flat_map (unmarked mark) (lines text)

-- how the lines begin that a node of this number writes in a replay
abbrev pub mark_of : ℕ → List ℕ
mark_of node = codes "> " ++ decimal node ++ codes " "

-- the lines that a node of the machine writes, of all that is written in a replay
abbrev pub machine_lines : ℕ → List ℕ → List ℕ
machine_lines node replayed = marked (mark_of node) replayed

-- what stands behind the first space
abbrev pub behind_space : List ℕ → List ℕ
behind_space [] = []
behind_space (b ∷ more) = if b == 32 then more else behind_space more

-- a line that begins with a digit
abbrev pub is_numbered : List ℕ → Bool
is_numbered [] = false
is_numbered (b ∷ more) = nat_lt 47 b && nat_lt b 58

-- a step, behind the number of its pass: of a line that begins with no number, nothing
abbrev pub step_of : List ℕ → List ℕ
step_of line = if is_numbered line then behind_space line ++ 10 ∷ [] else []

-- the steps of a record
abbrev pub steps : List ℕ → List ℕ
steps text = flat_map step_of (lines text)

-- the steps of a node that left this record of a run, and was stopped
abbrev pub run_steps : List ℕ → List ℕ
run_steps text = steps text ++ codes "stopped\n"

-- the steps of a node that left these records, one of each run
abbrev pub node_steps : {A : Type 0} → List (Vec ℕ A) → List ℕ
node_steps runs = flat_map (λ r. run_steps r.items) runs

abbrev pub lacks_steps : List ℕ → Bool
lacks_steps text = length (steps text) == 0

abbrev pub one_lacks_steps : {A : Type 0} → List (Vec ℕ A) → Bool
one_lacks_steps runs = list_any (λ r. lacks_steps r.items) runs

-- A node left these records, one of each run, in the run of the machine of which all this was written: the machine's node writes their
-- steps, and no others, in their order. There is a record, and each has a step.
abbrev pub Stands : {A : Type 0} → ℕ → List ℕ → List (Vec ℕ A) → Type 0
Stands node replayed runs =
    (machine_lines node replayed ≡ node_steps runs) × (0 < length runs) × (one_lacks_steps runs ≡ false)
