-- An input that begins with a call has no other answer.
use Rattle.std.proofs.Common.{◌≡◌, ℕ, ◌+◌, ◌<◌, ◌-◌, ◌≤◌, List, [], ◌++◌, length, take, inl, inr, sym, ap, ◌∙◌, subst, arith, refl}
use Rattle.std.proofs.Common.{append-nil, Some, None, Ok, Err, true, false}
use Rattle.std.proofs.Math.Seq.{take-append-add}
use Rattle.std.proofs.Math.ListN.{length-append}
use Rattle.httparse.specs.Grammar.{RequestHead, ReadsRequest, print_request}
use Rattle.httparse.proofs.GrammarLemmas.{request_unique}
use Rattle.iiif_http_front.specs.declared.head_fault.HeadFault.TheVariants.{Bad, TooLong, Cut, Io, NoMemory}
use Rattle.iiif_http_front.specs.RequestHeads.{byte_limit, field_limit, announces_body, BeginsWithCall}
use Rattle.iiif_http_front.specs.Reading.{IsCallOf, IsBad, no_head, many_fields, many_lines, has_body}
use Rattle.iiif_http_front.proofs.LineLemmas.{few_lines}
use Rattle.iiif_http_front.specs.Laws.{BeginsWithOneCall, AnswersEachCall}

pub one_call : BeginsWithOneCall
one_call input h k rest left a b = request_unique input h k rest left a.reads b.reads

-- a head has at least the space behind its method
some_byte : (h : RequestHead) → 0 < length (print_request h)
unfolding print_request
some_byte h = simp (print_request, length-append) (omega arith)

-- the first bytes that a head may have hold a whole call
in_limit : (input : List ℕ) (h : RequestHead) (rest : List ℕ) → BeginsWithCall input h rest → (more : List ℕ) ×
    ReadsRequest (take byte_limit input) h more
in_limit input h rest call =
    let text : List ℕ = print_request h in
    let split : byte_limit ≡ length text + (byte_limit - length text) = omega (arith, call.bytes) in
    let front : take byte_limit input ≡ text ++ take (byte_limit - length text) rest =
    ap (take byte_limit) call.reads.1 ∙ ap (λ k. take k (text ++ rest)) split ∙ take-append-add text rest (byte_limit - length text) in
    (take (byte_limit - length text) rest, (call.reads.0, front))

pub not_bad : (bytes : List ℕ) (h : RequestHead) (more : List ℕ) → ReadsRequest bytes h more → length h.fields ≤ field_limit →
    announces_body h ≡ false → IsBad bytes → ⊥
not_bad bytes h more reads few bare (no_head never) =
    never [] h more (subst (λ (t : List ℕ). ReadsRequest t h more) (sym (append-nil bytes)) reads)
not_bad bytes h more reads few bare (many_fields over all) =
    let many : field_limit < length h.fields =
    all [] h more (subst (λ (t : List ℕ). ReadsRequest t h more) (sym (append-nil bytes)) reads) in
    omega (arith, many, few)
not_bad bytes h more reads few bare (many_lines front rest is none many) =
    many (few_lines front rest h more (subst (λ (t : List ℕ). ReadsRequest t h more) is reads) few none)
not_bad bytes h more reads few bare (has_body k rest other announced) =
    let same = (request_unique bytes h k more rest reads other).0 in
    let both : true ≡ false = sym announced ∙ ap announces_body (sym same) ∙ bare in
    cc

pub each_call : AnswersEachCall
each_call input h rest left (Ok None) call right =
    let none : length (print_request h ++ rest) ≡ 0 = ap length (sym call.reads.1 ∙ right.0) in
    absurd (omega (arith, length-append (print_request h) rest, some_byte h, none))
each_call input h rest left (Ok (Some found)) call right =
    let same = one_call input right.0 h right.1 rest right.2 call in
    inl (found, refl, subst (IsCallOf found) same.0 right.3, right.4 ∙ ap Some same.1)
each_call input h rest left (Err Io) call right = inr (inl refl)
each_call input h rest left (Err NoMemory) call right = inr (inr refl)
each_call input h rest left (Err Bad) call right =
    let front = in_limit input h rest call in
    absurd (not_bad _ h front.0 front.1 call.fields call.bare right.0)
each_call input h rest left (Err TooLong) call right =
    let front = in_limit input h rest call in
    absurd (right.0.not_whole h front.0 front.1)
each_call input h rest left (Err Cut) call right = absurd (right.0.not_whole h rest call.reads)
