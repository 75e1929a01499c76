-- Lines of answers, one more.
use Rattle.std.proofs.Common.{◌≡◌, ◌+◌, ◌++◌, append_assoc, ℕ, zero, suc, List, [], ◌∷◌, take, Option, Some, refl, sym, ap, ◌∙◌}
use Rattle.std.proofs.Common.{arith}
use Rattle.std.specs.Prelude.{slice_get}
use Rattle.std.proofs.lemmas.Option.{none-some, same_Some}
use Rattle.iiif_machine.specs.declared.rows.Answer.{Answer}
use Rattle.iiif_event_list.specs.Texts.{answer_line, lines_from, answers_text}

append_nil : (xs : List ℕ) → xs ++ [] ≡ xs
append_nil [] = refl
append_nil (y ∷ ys) = ap (λ zs. y ∷ zs) (append_nil ys)

lines_more : (n : ℕ) (xs : List (Option Answer)) (i : ℕ) (a : Option Answer) → slice_get xs i ≡ Some a →
    lines_from n (take (suc i) xs) ≡ lines_from n (take i xs) ++ answer_line (n + i) a
lines_more n [] i a at = absurd (none-some a at)
lines_more n (x ∷ xs) zero a at =
    let place : n ≡ n + 0 = omega arith in
    append_nil (answer_line n x) ∙ ap (answer_line n) (same_Some x a at) ∙ ap (λ m. answer_line m a) place
lines_more n (x ∷ xs) (suc i) a at =
    let more : lines_from (suc n) (take (suc i) xs) ≡ lines_from (suc n) (take i xs) ++ answer_line (suc n + i) a =
    lines_more (suc n) xs i a at in
    let place : suc n + i ≡ n + suc i = omega arith in
    ap (λ t. answer_line n x ++ t) (more ∙ ap (λ m. lines_from (suc n) (take i xs) ++ answer_line m a) place)
    ∙ sym (append_assoc (answer_line n x) (lines_from (suc n) (take i xs)) (answer_line (n + suc i) a))

pub lines_next : (xs : List (Option Answer)) (i : ℕ) (a : Option Answer) → slice_get xs i ≡ Some a →
    answers_text (take (i + 1) xs) ≡ answers_text (take i xs) ++ answer_line i a
lines_next xs i a at =
    let next : i + 1 ≡ suc i = omega arith in
    let place : 0 + i ≡ i = omega arith in
    ap (λ n. answers_text (take n xs)) next ∙ lines_more 0 xs i a at ∙ ap (λ n. answers_text (take i xs) ++ answer_line n a) place
