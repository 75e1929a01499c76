-- Lines that are put and taken.
use Rattle.std.proofs.Common.{◌≡◌, ℕ, zero, suc, ◌+◌, ◌^◌, ◌<◌, Bool, true, false, cond, nat_lt, List, [], ◌∷◌, ◌++◌, length, append_assoc}
use Rattle.std.proofs.Common.{arith, subst, refl}
use Rattle.std.proofs.Math.ListN.{length-append}
use Rattle.std.proofs.lemmas.Grind.{common_steps}
use Rattle.std.proofs.lemmas.List.{append-nil}
use Rattle.std.proofs.lemmas.List.Sums.{sum_by_push}
use Rattle.iiif_log.specs.Laws.{Keeps, CountsAddUp}
use Rattle.iiif_log.specs.Laws.Keeps.{none, kept, gone, said}
use Rattle.iiif_io.specs.Counting.{capped}
use Rattle.iiif_log.specs.Waiting.{QueuedLine, Waiting, line, lost_behind, next_of, left_of, lines_in, put_behind}

-- a count that is not the greatest goes up
capped_is : (n : ℕ) → n < 2 ^ 64 → capped n ≡ n
capped_is n small = omega arith

pub put_keeps : (puts : List (List ℕ)) (taken : List QueuedLine) (w : Waiting) (text : List ℕ) → 0 < length text → w.lost + 1 < 2 ^ 64
    → Keeps puts (taken ++ w.lines) w.lost → Keeps (puts ++ text ∷ []) (taken ++ (put_behind text w).lines) (put_behind text w).lost
put_keeps puts taken w text some small k =
    elim (nat_lt (length w.lines) 1024)
    as (λ b. Keeps (puts ++ text ∷ [])
    (taken ++ (cond b (record { lines = w.lines ++ record { lost = w.lost; text = text } ∷ []; lost = 0; is_open = w.is_open })
    (lost_behind w)).lines)
    (cond b (record { lines = w.lines ++ record { lost = w.lost; text = text } ∷ []; lost = 0; is_open = w.is_open })
    (lost_behind w)).lost) [
      | true ↦ subst (λ ls. Keeps (puts ++ text ∷ []) ls 0) (append_assoc taken w.lines (record { lost = w.lost; text = text } ∷ []))
          (kept puts (taken ++ w.lines) w.lost text some k)
      | false ↦ rw (capped_is (w.lost + 1) small) (gone puts (taken ++ w.lines) w.lost text k)
    ]

pub take_keeps : (puts : List (List ℕ)) (taken lines : List QueuedLine) (lost : ℕ) (is_open : Bool) (l : QueuedLine) →
    next_of lines lost is_open ≡ line l
    → Keeps puts (taken ++ lines) lost
    → Keeps puts ((taken ++ l ∷ []) ++ (left_of lines (record { lines = lines; lost = lost; is_open = is_open })).lines)
    (left_of lines (record { lines = lines; lost = lost; is_open = is_open })).lost
take_keeps puts taken (x ∷ xs) lost is_open l e k =
    let same : x ≡ l = cc in
    rw append_assoc (rw (← same) k)
take_keeps puts taken [] (suc n) is_open l e k =
    let same : record { lost = suc n; text = [] } ≡ l = cc in
    rw (append-nil, ← same) (said puts taken (suc n) (rw append-nil at k))
take_keeps puts taken [] zero true l e k = cc
take_keeps puts taken [] zero false l e k = cc

-- a line that is there counts for itself
lines_in_line : (lost : ℕ) (text : List ℕ) → 0 < length text → lines_in (record { lost = lost; text = text }) ≡ lost + 1
lines_in_line lost text some = grind (arith, common_steps)

pub counts : CountsAddUp
counts puts told lost none = refl
counts puts told lost (kept before earlier count text some k) =
    let ih = counts before earlier count k in
    omega (
      arith,
      ih,
      length-append before (text ∷ []),
      sum_by_push lines_in earlier (record { lost = count; text = text }),
      lines_in_line count text some,
    )
counts puts told lost (gone before earlier count text k) =
    let ih = counts before earlier count k in
    omega (arith, ih, length-append before (text ∷ []))
counts puts told lost (said before earlier count k) =
    let ih = counts before earlier count k in
    omega (arith, ih, sum_by_push lines_in earlier (record { lost = count; text = [] }))
