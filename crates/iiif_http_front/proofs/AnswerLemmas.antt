-- What is known of the bytes that came is known of the whole input.
use Rattle.std.proofs.Common.{◌≡◌, ℕ, ◌+◌, ◌-◌, ◌≤◌, List, [], ◌++◌, length, take, drop, sym, ap, ◌∙◌, subst, arith, refl, append_assoc}
use Rattle.std.proofs.Common.{append-nil, Option, Some, None, Result, Ok, Err}
use Rattle.std.specs.Prelude.{IfSome}
use Rattle.std.specs.Io.KnownBytes.{prepend_known, Consumes}
use Rattle.std.proofs.Math.Seq.{take-append-add, take-append_seam}
use Rattle.std.proofs.Math.ListN.{length-append}
use Rattle.httparse.specs.Grammar.{RequestHead, HasNoRequest, MayBecomeRequest}
use Rattle.httparse.proofs.GrammarLemmas.{ReadsRequest-append}
use Rattle.iiif_http_front.specs.declared.call.Call.{Call}
use Rattle.iiif_http_front.specs.declared.head_fault.HeadFault.{HeadFault}
use Rattle.iiif_http_front.specs.declared.head_fault.HeadFault.TheVariants.{Bad, TooLong, Cut, Io, NoMemory}
use Rattle.iiif_http_front.specs.declared.search.Found.TheVariants.{Whole, Partial}
use Rattle.iiif_http_front.specs.RequestHeads.{byte_limit, BeginsWithCall}
use Rattle.iiif_http_front.specs.Reading.{IsBad, no_head, many_fields, many_lines, has_body, HasFewFields, IsTooLong, Answers}
use Rattle.iiif_http_front.specs.Code.{Finds}

-- an answer that is right whatever follows the bytes that came is right of a known input, and of what came
pub answers_known : (a b : Option (List ℕ)) (old came now left : List ℕ) (r : Result (Option Call) HeadFault) → now ≡ old ++ came →
    Consumes a b came
    → ((rest : List ℕ) → Answers (now ++ rest) (Some (left ++ rest)) r)
    → IfSome (prepend_known old a) (λ input. Answers input (prepend_known left b) r)
answers_known None b old came now left r is took right = tt
answers_known (Some xs) None old came now left r is took right = absurd took
answers_known (Some xs) (Some ys) old came now left r is took right =
    let whole : now ++ ys ≡ old ++ xs = ap (λ (t : List ℕ). t ++ ys) is ∙ append_assoc old came ys ∙
    ap (λ (t : List ℕ). old ++ t) (sym took) in
    subst (λ (t : List ℕ). Answers t (Some (left ++ ys)) r) whole (right ys)

pub answers_came : (old came now left : List ℕ) (r : Result (Option Call) HeadFault) → now ≡ old ++ came → Answers now (Some left) r
    → (more : List ℕ) × Answers (old ++ more) (Some left) r
answers_came old came now left r is right = (came, subst (λ (t : List ℕ). Answers t (Some left) r) is right)

-- nothing follows
pub answers_here : (now left : List ℕ) (r : Result (Option Call) HeadFault) →
    ((rest : List ℕ) → Answers (now ++ rest) (Some (left ++ rest)) r) → Answers now (Some left) r
answers_here now left r right =
    let first : Answers now (Some (left ++ [])) r = subst (λ (t : List ℕ). Answers t (Some (left ++ [])) r) (append-nil now) (right []) in
    subst (λ (t : List ℕ). Answers now (Some t) r) (append-nil left) first

-- a call at the front stays there
pub call-append : (bytes : List ℕ) (h : RequestHead) (left rest : List ℕ) → BeginsWithCall bytes h left →
    BeginsWithCall (bytes ++ rest) h (left ++ rest)
call-append bytes h left rest call = record {
  reads = ReadsRequest-append bytes h left rest call.reads;
  bytes = call.bytes;
  fields = call.fields;
  bare = call.bare;
}

take-append-within : (n : ℕ) (bytes rest : List ℕ) → length bytes ≤ n → (more : List ℕ) × (take n (bytes ++ rest) ≡ bytes ++ more)
take-append-within n bytes rest fits =
    let split : n ≡ length bytes + (n - length bytes) = omega arith in
    (take (n - length bytes) rest, ap (λ k. take k (bytes ++ rest)) split ∙ take-append-add bytes rest (n - length bytes))

pub bad-append : (bytes more : List ℕ) → IsBad bytes → IsBad (bytes ++ more)
bad-append bytes more (no_head never) = no_head (λ rest. rw (append_assoc bytes more rest) (never (more ++ rest)))
bad-append bytes more (many_fields over all) =
    many_fields (over.0, over.1 ++ more, ap (λ (t : List ℕ). t ++ more) over.2 ∙ append_assoc over.0 over.1 more, over.3, over.4, over.5)
    (λ rest h left reads. all (more ++ rest) h left (rw (append_assoc bytes more rest) at reads))
bad-append bytes more (many_lines front rest is none many) =
    many_lines front (rest ++ more) (ap (λ (t : List ℕ). t ++ more) is ∙ append_assoc front rest more) none many
bad-append bytes more (has_body h rest reads announced) = has_body h (rest ++ more) (ReadsRequest-append bytes h rest more reads) announced

-- what was found is right whatever follows
fault_found : (bytes : List ℕ) (fault : HeadFault) → length bytes ≤ 8192 → Finds bytes (Err fault) → (rest : List ℕ) →
    Answers (bytes ++ rest) (Some (bytes ++ rest)) (Err fault)
fault_found bytes Bad fits bad = λ rest.
    let front = take-append-within byte_limit bytes rest fits in
    (subst IsBad (sym front.1) (bad-append bytes front.0 bad), refl)
fault_found bytes NoMemory fits call = λ rest. ((call.0, call.1 ++ rest, call-append bytes call.0 call.1 rest call.2), refl)
fault_found bytes Io fits found = λ rest. absurd found
fault_found bytes TooLong fits found = λ rest. absurd found
fault_found bytes Cut fits found = λ rest. absurd found

-- the bytes are shown as a slice
pub found_fault : (shown bytes : List ℕ) (fault : HeadFault) → shown ≡ bytes → length bytes ≤ 8192 → Finds shown (Err fault)
    → (rest : List ℕ) → Answers (bytes ++ rest) (Some (bytes ++ rest)) (Err fault)
found_fault shown bytes fault same fits found = fault_found bytes fault fits (subst (λ (t : List ℕ). Finds t (Err fault)) same found)

call_found : (bytes : List ℕ) (call : Call) (n : ℕ) → Finds bytes (Ok (Whole call n)) → (rest : List ℕ) →
    Answers (bytes ++ rest) (Some (drop n bytes ++ rest)) (Ok (Some call))
call_found bytes call n found = λ rest.
    let head = found.1 in
    (head.0, drop n bytes ++ rest, call-append bytes head.0 (drop n bytes) rest head.1, head.2, refl)

pub found_call : (shown bytes left : List ℕ) (call : Call) (n : ℕ) → shown ≡ bytes → left ≡ drop n bytes → Finds shown (Ok (Whole call n))
    → (rest : List ℕ) → Answers (bytes ++ rest) (Some (left ++ rest)) (Ok (Some call))
found_call shown bytes left call n same is found = λ rest.
    let right = call_found bytes call n (subst (λ (t : List ℕ). Finds t (Ok (Whole call n))) same found) rest in
    subst (λ (t : List ℕ). Answers (bytes ++ rest) (Some (t ++ rest)) (Ok (Some call))) (sym is) right

pub too_long : (shown bytes : List ℕ) → shown ≡ bytes → length bytes ≡ 8192 → Finds shown (Ok Partial)
    → (rest : List ℕ) → Answers (bytes ++ rest) (Some (bytes ++ rest)) (Err TooLong)
too_long shown bytes same full found = λ rest.
    let front : take byte_limit (bytes ++ rest) ≡ bytes = ap (λ k. take k (bytes ++ rest)) (sym full) ∙ take-append_seam bytes rest in
    let over : byte_limit ≤ length (bytes ++ rest) = omega (arith, length-append bytes rest) in
    let is : IsTooLong (bytes ++ rest) = record {
      full = over;
      not_whole = subst HasNoRequest (same ∙ sym front) found.0;
      unfinished = subst MayBecomeRequest (same ∙ sym front) found.1;
      few = subst HasFewFields (same ∙ sym front) found.2;
    } in
    (is, refl)
