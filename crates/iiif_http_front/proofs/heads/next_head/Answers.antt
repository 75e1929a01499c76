use Rattle.std.proofs.Common.{◌≡◌, List, ℕ, ◌<◌, ◌++◌, length, ap, arith, Some, Ok, Err, inr, sym, ◌∙◌, append_assoc}
use Rattle.std.proofs.KnownBytes.{Consumes-trans}
use Rattle.iiif_http_front.specs.declared.head_fault.HeadFault.TheVariants.{TooLong}
use Rattle.iiif_http_front.proofs.AnswerLemmas.{answers_known, answers_came, answers_here, found_fault, found_call, too_long}
use Rattle.iiif_http_front.proofs.PromptLemmas.{further, answers_at_end, cut_here, failed_here, some_there}
use Rattle.iiif_http_front.proofs.PromptLemmas.{refused_so_far}
use Rattle.iiif_http_front.proofs.RefusalLemmas.{none_refused, call_refused, fault_refused, stays_open}
use Rattle.iiif_http_front.proofs.heads.next_head.Goals as goal

pub returns-in-Err-clause-answers : goal.returns-in-Err-clause-answers
returns-in-Err-clause-answers g c =
    let came = c.heads.invariant in
    let found = found_fault _ c.heads.unread c.in-Err.fault c.as_slice.ensures.value c.as_slice.ensures.bound c.in-Err.ensures in
    answers_known _ _ _ came.0 c.heads.unread c.heads.unread (Err c.in-Err.fault) came.1 came.2 found

pub returns-in-Err-clause-came : goal.returns-in-Err-clause-came
returns-in-Err-clause-came g c =
    let came = c.heads.invariant in
    let found = found_fault _ c.heads.unread c.in-Err.fault c.as_slice.ensures.value c.as_slice.ensures.bound c.in-Err.ensures in
    answers_came _ came.0 c.heads.unread c.heads.unread (Err c.in-Err.fault) came.1
    (answers_here c.heads.unread c.heads.unread (Err c.in-Err.fault) found)

pub returns-in-Ok-Whole-clause-answers : goal.returns-in-Ok-Whole-clause-answers
returns-in-Ok-Whole-clause-answers g c =
    let came = c.heads.invariant in
    let found = found_call _ c.heads.unread _ c.in-Ok-Whole.call c.in-Ok-Whole.length c.as_slice.ensures.value c.consume.ensures
    (rw c.in-Ok-Whole.field-0-is at c.in-Ok-Whole.ensures) in
    answers_known _ _ _ came.0 c.heads.unread _ (Ok (Some c.in-Ok-Whole.call)) came.1 came.2 found

pub returns-then-as_slice-ge-BYTE_LIMIT-clause-answers :
    goal.returns-then-as_slice-ge-BYTE_LIMIT-clause-answers
returns-then-as_slice-ge-BYTE_LIMIT-clause-answers g c =
    let came = c.heads.invariant in
    let full : length c.heads.unread ≡ 8192 = omega
    (arith, ap length c.as_slice-in-heads.ensures.value, c.as_slice.ensures.bound, c.if-as_slice-ge-BYTE_LIMIT.true) in
    let found = too_long _ c.heads.unread c.as_slice.ensures.value full (rw c.in-Ok-Partial.field-0-is at c.in-Ok-Partial.ensures) in
    answers_known _ _ _ came.0 c.heads.unread c.heads.unread (Err TooLong) came.1 came.2 found

pub returns-then-as_slice-ge-BYTE_LIMIT-clause-came :
    goal.returns-then-as_slice-ge-BYTE_LIMIT-clause-came
returns-then-as_slice-ge-BYTE_LIMIT-clause-came g c =
    let came = c.heads.invariant in
    let full : length c.heads.unread ≡ 8192 = omega
    (arith, ap length c.as_slice-in-heads.ensures.value, c.as_slice.ensures.bound, c.if-as_slice-ge-BYTE_LIMIT.true) in
    let found = too_long _ c.heads.unread c.as_slice.ensures.value full (rw c.in-Ok-Partial.field-0-is at c.in-Ok-Partial.ensures) in
    answers_came _ came.0 c.heads.unread c.heads.unread (Err TooLong) came.1
    (answers_here c.heads.unread c.heads.unread (Err TooLong) found)

pub returns-in_default-clause-answers : goal.returns-in_default-clause-answers
returns-in_default-clause-answers g c =
    let came = c.heads.invariant in
    let line = c.fill_line.ensures.came in
    let joined = line.1 ∙ ap (λ (t : List ℕ). t ++ line.0) came.1 ∙ append_assoc c.args.unread.now came.0 line.0 in
    let taken = Consumes-trans _ _ _ came.0 line.0 came.2 line.2 in
    let right = failed_here _ c.fill_line.new.unread c.fault_at_end.result c.as_slice-in_default.ensures.value
    c.in_default.ensures.failed.0.short c.fault_at_end.ensures in
    answers_known _ _ _ (came.0 ++ line.0) c.fill_line.new.unread c.fill_line.new.unread (Err c.fault_at_end.result) joined taken right

pub returns-in_default-clause-came : goal.returns-in_default-clause-came
returns-in_default-clause-came g c =
    let came = c.heads.invariant in
    let line = c.fill_line.ensures.came in
    let joined = line.1 ∙ ap (λ (t : List ℕ). t ++ line.0) came.1 ∙ append_assoc c.args.unread.now came.0 line.0 in
    let right = failed_here _ c.fill_line.new.unread c.fault_at_end.result c.as_slice-in_default.ensures.value
    c.in_default.ensures.failed.0.short c.fault_at_end.ensures in
    answers_came _ (came.0 ++ line.0) c.fill_line.new.unread c.fill_line.new.unread (Err c.fault_at_end.result) joined
    (answers_here c.fill_line.new.unread c.fill_line.new.unread (Err c.fault_at_end.result) right)

pub returns-then-not-more-clause-answers : goal.returns-then-not-more-clause-answers
returns-then-not-more-clause-answers g c =
    let came = c.heads.invariant in
    let line = c.fill_line.ensures.came in
    let joined = line.1 ∙ ap (λ (t : List ℕ). t ++ line.0) came.1 ∙ append_assoc c.args.unread.now came.0 line.0 in
    let taken = Consumes-trans _ _ _ came.0 line.0 came.2 line.2 in
    let ended = c.in-Ok.ensures.end c.if-not-more.true in
    let some : 0 < length c.fill_line.new.unread = omega
    (arith, some_there _ (sym c.is_empty.ensures ∙ c.if-is_empty.false), ap length c.as_slice-then-not-more.ensures.value) in
    let right = cut_here _ c.fill_line.new.unread c.fault_at_end-then-not-more.result c.as_slice-then-not-more-2.ensures.value
    ended.0.short some c.fault_at_end-then-not-more.ensures in
    answers_at_end _ _ _ (came.0 ++ line.0) c.fill_line.new.unread c.fill_line.new.unread (Err c.fault_at_end-then-not-more.result)
    joined taken ended.1 right

pub returns-then-not-more-clause-came : goal.returns-then-not-more-clause-came
returns-then-not-more-clause-came g c =
    let came = c.heads.invariant in
    let line = c.fill_line.ensures.came in
    let joined = line.1 ∙ ap (λ (t : List ℕ). t ++ line.0) came.1 ∙ append_assoc c.args.unread.now came.0 line.0 in
    let ended = c.in-Ok.ensures.end c.if-not-more.true in
    let some : 0 < length c.fill_line.new.unread = omega
    (arith, some_there _ (sym c.is_empty.ensures ∙ c.if-is_empty.false), ap length c.as_slice-then-not-more.ensures.value) in
    let right = cut_here _ c.fill_line.new.unread c.fault_at_end-then-not-more.result c.as_slice-then-not-more-2.ensures.value
    ended.0.short some c.fault_at_end-then-not-more.ensures in
    answers_came _ (came.0 ++ line.0) c.fill_line.new.unread c.fill_line.new.unread (Err c.fault_at_end-then-not-more.result) joined right

pub heads-preserved : goal.heads-preserved
heads-preserved g c =
    let came = c.heads.invariant in
    let line = c.fill_line.ensures.came in
    let joined = line.1 ∙ ap (λ (t : List ℕ). t ++ line.0) came.1 ∙ append_assoc c.args.unread.now came.0 line.0 in (
      came.0 ++ line.0,
      joined,
      Consumes-trans _ _ _ came.0 line.0 came.2 line.2,
      inr (further g.I.Inlet.gave _ came.0 c.heads.unread _ _ came.1 (c.in-Ok.ensures.needed c.if-not-more.false).0),
    )

pub returns-in-Err-clause-refused : goal.returns-in-Err-clause-refused
returns-in-Err-clause-refused g c =
    let came = c.heads.invariant in
    λ bad. (
      ap Err (fault_refused _ c.heads.unread _ came.0 c.in-Err.fault c.as_slice.ensures.value came.1 c.in-Err.ensures bad),
      refused_so_far g.I.Inlet.gave _ c.heads.unread _ _ came.3 bad,
    )

pub returns-in-Ok-Whole-clause-refused : goal.returns-in-Ok-Whole-clause-refused
returns-in-Ok-Whole-clause-refused g c =
    let came = c.heads.invariant in
    λ bad. absurd (call_refused _ c.heads.unread _ came.0 c.in-Ok-Whole.call c.in-Ok-Whole.length c.as_slice.ensures.value came.1
    (rw c.in-Ok-Whole.field-0-is at c.in-Ok-Whole.ensures) bad)

pub returns-then-as_slice-ge-BYTE_LIMIT-clause-refused :
    goal.returns-then-as_slice-ge-BYTE_LIMIT-clause-refused
returns-then-as_slice-ge-BYTE_LIMIT-clause-refused g c =
    let came = c.heads.invariant in
    λ bad. absurd (none_refused _ c.heads.unread _ came.0 c.as_slice.ensures.value came.1
    (rw c.in-Ok-Partial.field-0-is at c.in-Ok-Partial.ensures) bad)

pub fill_line-requires : goal.fill_line-requires
fill_line-requires g c =
    stays_open _ c.heads.unread c.as_slice.ensures.value (rw c.in-Ok-Partial.field-0-is at c.in-Ok-Partial.ensures)
    (omega (arith, c.if-as_slice-ge-BYTE_LIMIT.false, ap length c.as_slice-in-heads.ensures.value))

pub returns-in_default-clause-refused : goal.returns-in_default-clause-refused
returns-in_default-clause-refused g c =
    let came = c.heads.invariant in
    λ bad. absurd (none_refused _ c.heads.unread _ came.0 c.as_slice.ensures.value came.1
    (rw c.in-Ok-Partial.field-0-is at c.in-Ok-Partial.ensures) bad)

pub returns-then-not-more-clause-refused : goal.returns-then-not-more-clause-refused
returns-then-not-more-clause-refused g c =
    let came = c.heads.invariant in
    λ bad. absurd (none_refused _ c.heads.unread _ came.0 c.as_slice.ensures.value came.1
    (rw c.in-Ok-Partial.field-0-is at c.in-Ok-Partial.ensures) bad)
