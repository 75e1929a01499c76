-- Lines that wait to be written, and what of them is lost.
use Rattle.std.specs.Prelude.{ℕ, zero, suc, ◌==◌, ◌+◌, Bool, true, false, nat_le, nat_lt, List, [], ◌∷◌, ◌++◌, length, if◌then◌else◌}
use Rattle.iiif_io.specs.Counting.{capped}
use Rattle.iiif_log.specs.declared.queue.Line.{Line}
use Rattle.iiif_log.specs.declared.queue.Taken.{Taken}
use Rattle.iiif_log.specs.declared.queue.Taken.TheVariants as taken

-- a line, and how many lines were lost right before it; no bytes where none came behind those
pub record QueuedLine : Type 0 where
  pub lost : ℕ
  pub text : List ℕ

-- the lines that wait, in order; how many were lost behind the last; whether more may come
pub record Waiting : Type 0 where
  pub lines : List QueuedLine
  pub lost : ℕ
  pub is_open : Bool

-- what is taken of a queue
pub data Next : Type 0 where
  line : QueuedLine → Next
  nothing : Next
  closed : Next

abbrev pub line_view : Line → QueuedLine
line_view l = record { lost = l.lost; text = l.text.items }

-- the most lines that wait
abbrev pub most : ℕ
most = 1024

abbrev pub none_waits : Waiting
none_waits = record { lines = []; lost = 0; is_open = true }

-- there is no room for another line
abbrev pub is_full : Waiting → Bool
is_full w = nat_le most (length w.lines)

-- one more is lost
abbrev pub lost_behind : Waiting → Waiting
lost_behind w = record w { lost = capped (w.lost + 1) }

-- a line is put behind the others, or lost where there is no room
abbrev pub put_behind : List ℕ → Waiting → Waiting
put_behind text w =
    if nat_lt (length w.lines) most
    then record { lines = w.lines ++ record { lost = w.lost; text = text } ∷ []; lost = 0; is_open = w.is_open }
    else lost_behind w

-- what is told next: the line that waits longest, else how many were lost
abbrev pub next_of : List QueuedLine → ℕ → Bool → Next
next_of (l ∷ ls) lost is_open = line l
next_of [] (suc n) is_open = line (record { lost = suc n; text = [] })
next_of [] zero true = nothing
next_of [] zero false = closed

abbrev pub told_next : Waiting → Next
told_next w = next_of w.lines w.lost w.is_open

-- what is left then
abbrev pub left_of : List QueuedLine → Waiting → Waiting
left_of (l ∷ ls) w = record w { lines = ls }
left_of [] w = record w { lost = 0 }

abbrev pub left_behind : Waiting → Waiting
left_behind w = left_of w.lines w

-- nothing more will come
abbrev pub closed_to_more : Waiting → Waiting
closed_to_more w = record w { is_open = false }

-- what was taken
abbrev pub taken_view : Taken → Next
taken_view (taken.Line l) = line (line_view l)
taken_view taken.Nothing = nothing
taken_view taken.Closed = closed

-- how many lines a queue's line stands for, with those that were lost before it
abbrev pub lines_in : QueuedLine → ℕ
lines_in l = if length l.text == 0 then l.lost else l.lost + 1
