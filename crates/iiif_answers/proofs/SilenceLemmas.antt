-- A connection whose input begins with a call is not silent.
use Rattle.std.proofs.Common.{◌≡◌, ℕ, ◌<◌, Bool, true, false, List, [], ◌∷◌, ◌++◌, length, Option, Some, None, Result, Ok, Err, ◌⊎◌, inl}
use Rattle.std.proofs.Common.{inr, sym, refl, ap, ◌∙◌, arith, length-append}
use Rattle.std.specs.Prelude.{if◌then◌else◌}
use Rattle.httparse.specs.Grammar.{RequestHead}
use Rattle.iiif_http_front.specs.AnswerHeads.{head_text}
use Rattle.iiif_http_front.specs.Reading.{Answers, Faults, IsCallOf}
use Rattle.iiif_http_front.specs.RequestHeads.{BeginsWithCall}
use Rattle.iiif_http_front.specs.declared.call.Call.{Call}
use Rattle.iiif_http_front.specs.declared.head_fault.HeadFault.{HeadFault}
use Rattle.iiif_http_front.specs.declared.head_fault.HeadFault.TheVariants as fault
use Rattle.iiif_http_front.proofs.InputLemmas.{each_call}
use Rattle.iiif_source.specs.declared.ReadFault.{ReadFault}
use Rattle.iiif_answers.specs.Allowed.{Allowed, IsCut}
use Rattle.iiif_answers.specs.Answers.{Reply}
use Rattle.iiif_answers.specs.Calls.{RepliesToCall, is_head, part_of}
use Rattle.iiif_tile_group.specs.Collection.{Item}
use Rattle.iiif_answers.specs.Laws.{NoSilence}
use Rattle.iiif_answers.specs.Responses.{Response, want_of_memory, written}
use Rattle.iiif_answers.specs.Sent.{text_of}
use Rattle.iiif_answers.specs.Settings.{Settings}
use Rattle.iiif_answers.specs.Streams.{Stream, terms, IsClosing, closes_after, goes_on, closed, cut_off, ended, head_cut, reader_failed}
use Rattle.iiif_answers.specs.Streams.{no_memory, no_head}
use Rattle.iiif_answers.specs.declared.answer.Cause.{Cause}
use Rattle.iiif_answers.specs.declared.answer.Sent.{Sent}
use Rattle.iiif_answers.specs.declared.answer.Cause.TheVariants.{Writer, Load}
use Rattle.iiif_answers.specs.declared.part.Part.TheVariants.{Head, Whole}

-- a head has at least the line that ends it
some_head : (status : ℕ) (fields : List (List ℕ × List ℕ)) (n : ℕ) (close : Bool) → 0 < length (head_text status fields n close)
unfolding head_text
some_head status fields n close = simp (head_text, length-append) (omega arith)

part_some : (r : Response) (head close : Bool) → 0 < length (text_of (written (if head then Head close else Whole close) r))
part_some r true close =
    omega (arith, length-append (head_text r.status r.fields (length r.body) close) [], some_head r.status r.fields (length r.body) close)
part_some r false close =
    omega (
      arith,
      length-append (head_text r.status r.fields (length r.body) close) r.body,
      some_head r.status r.fields (length r.body) close,
    )

-- so an answer to a call is not empty
answer_some : (r : Response) (method : List ℕ) (close : Bool) → 0 < length (text_of (written (part_of method close) r))
answer_some r method close = part_some r (is_head method) close

not_empty : (text whole : List ℕ) → text ≡ [] → 0 < length whole → text ≡ whole → ⊥
not_empty text whole none some same = omega (arith, some, ap length (sym same ∙ none))

-- nothing is answered whole by no byte
not_whole : {S : Type 0} (s : Settings) (method : List ℕ) (close : Bool) (gave : S → ReadFault → Bool) (Reaches : Reply S → Type 0)
    (writer : Type 0) (text : List ℕ)
    → text ≡ [] → ((sent : Sent) × Allowed s (part_of method close) gave Reaches writer text (Ok sent)) → ⊥
not_whole s method close gave Reaches writer text none allowed =
    not_empty text (text_of (written (part_of method close) allowed.1.0)) none (answer_some allowed.1.0 method close) allowed.1.2

-- where an answer was cut off before its first byte, the writer failed
cut_by_writer : {S : Type 0} (s : Settings) (method : List ℕ) (close : Bool) (gave : S → ReadFault → Bool) (Reaches : Reply S → Type 0)
    (writer : Type 0) (text : List ℕ) (cause : Cause)
    → text ≡ [] → IsCut s (part_of method close) gave Reaches writer text cause → writer
cut_by_writer s method close gave Reaches writer text Writer none is = is.0
cut_by_writer s method close gave Reaches writer text (Load f) none is = absurd (omega (arith, ap length none, is.3.past))

-- the end of the input, or a fault, is not answered where a call stands at its front
other_answer : (r : Result (Option Call) HeadFault) (P : Call → Type 0) (Q : Type 0) → ((call : Call) → r ≡ Ok (Some call) → ⊥) →
    (r ≡ Err fault.Io → ⊥)
    → (r ≡ Err fault.NoMemory → ⊥) → (((call : Call) × (r ≡ Ok (Some call)) × P call × Q) ⊎ (r ≡ Err fault.Io) ⊎ (r ≡ Err fault.NoMemory)) →
    ⊥
other_answer r P Q no_call no_io no_wish (inl found) = no_call found.0 found.1
other_answer r P Q no_call no_io no_wish (inr (inl failed)) = no_io failed
other_answer r P Q no_call no_io no_wish (inr (inr wanted)) = no_wish wanted

answered_call : (input : List ℕ) (h : RequestHead) (rest : List ℕ) (left : Option (List ℕ)) (r : Result (Option Call) HeadFault) →
    BeginsWithCall input h rest
    → Answers input left r → ((call : Call) → r ≡ Ok (Some call) → ⊥) → (r ≡ Err fault.Io → ⊥) → (r ≡ Err fault.NoMemory → ⊥) → ⊥
answered_call input h rest left r begins answers no_call no_io no_wish =
    other_answer r (λ call. IsCallOf call h) (left ≡ Some rest) no_call no_io no_wish (each_call input h rest left r begins answers)

not_at_end : (input : List ℕ) (h : RequestHead) (rest : List ℕ) → input ≡ [] → BeginsWithCall input h rest → ⊥
not_at_end input h rest none begins =
    answered_call input h rest (Some []) (Ok None) begins (none, refl) (λ call same. cc) (λ same. cc) (λ same. cc)

not_cut : (input : List ℕ) (h : RequestHead) (rest : List ℕ) → BeginsWithCall input h rest → Faults fault.Cut input → ⊥
not_cut input h rest begins faults =
    answered_call input h rest (Some input) (Err fault.Cut) begins (faults, refl) (λ call same. cc) (λ same. cc) (λ same. cc)

not_bad : (input : List ℕ) (h : RequestHead) (rest : List ℕ) → BeginsWithCall input h rest →
    (Faults fault.Bad input ⊎ Faults fault.TooLong input) → ⊥
not_bad input h rest begins (inl faults) =
    answered_call input h rest (Some input) (Err fault.Bad) begins (faults, refl) (λ call same. cc) (λ same. cc) (λ same. cc)
not_bad input h rest begins (inr faults) =
    answered_call input h rest (Some input) (Err fault.TooLong) begins (faults, refl) (λ call same. cc) (λ same. cc) (λ same. cc)

-- the answer to lack of memory is not empty either
closing_by_writer : (writer : Type 0) (r : Response) (text : List ℕ) → text ≡ [] → IsClosing writer r text → writer
closing_by_writer writer r text none (inl whole) =
    absurd (not_empty text (text_of (written (Whole true) r)) none (part_some r false true) whole)
closing_by_writer writer r text none (inr failed) = failed.0

none_first : (a b : List ℕ) → a ++ b ≡ [] → a ≡ []
none_first [] b none = refl
none_first (x ∷ a) b none = cc

-- no byte was written though a call came: the writer failed
silent_at : {S : Type 0} (bytes : S → List ℕ) (keeps : S → Type 0) (honest : Bool) (gave : S → ReadFault → Bool) (s : Settings)
    (items : List (Item S)) (reader writer : Type 0)
    (n : ℕ) (input output rest : List ℕ) (h : RequestHead) → output ≡ [] → BeginsWithCall input h rest
    → Stream (terms bytes keeps honest gave s items reader writer) n input output → writer
silent_at bytes keeps honest gave s items reader writer _ _ _ rest h none begins
    (goes_on n input left text output k other stays whole stream) =
    absurd (not_whole s k.method false gave (RepliesToCall bytes keeps honest s items k.method k.target) writer text
    (none_first text output none) whole)
silent_at bytes keeps honest gave s items reader writer _ _ _ rest h none begins (closed n input left text k other shut whole) =
    absurd (not_whole s k.method true gave (RepliesToCall bytes keeps honest s items k.method k.target) writer text none whole)
silent_at bytes keeps honest gave s items reader writer _ _ _ rest h none begins (cut_off n input left text k other part) =
    cut_by_writer s k.method (closes_after n k) gave (RepliesToCall bytes keeps honest s items k.method k.target) writer text part.0.cause
    none part.1.1
silent_at bytes keeps honest gave s items reader writer _ _ _ rest h none begins (ended n) = absurd (not_at_end [] h rest refl begins)
silent_at bytes keeps honest gave s items reader writer _ _ _ rest h none begins (head_cut n input faults) =
    absurd (not_cut input h rest begins faults)
silent_at bytes keeps honest gave s items reader writer _ _ _ rest h none begins (reader_failed n input failed unfinished) =
    absurd (unfinished.not_whole h rest begins.reads)
silent_at bytes keeps honest gave s items reader writer _ _ _ rest h none begins (no_head n input text faults sent) =
    absurd (not_bad input h rest begins faults)
silent_at bytes keeps honest gave s items reader writer _ _ _ rest h none begins (no_memory n input text may sent) =
    closing_by_writer writer want_of_memory text none sent

pub silent : {S : Type 0} (bytes : S → List ℕ) (keeps : S → Type 0) (honest : Bool) (gave : S → ReadFault → Bool) (reader writer : Type 0) →
    NoSilence bytes keeps honest gave reader writer
silent bytes keeps honest gave reader writer s items input rest h begins (inl stream) =
    silent_at bytes keeps honest gave s items reader writer 1 input [] rest h refl begins stream
silent bytes keeps honest gave reader writer s items input rest h begins (inr sent) = closing_by_writer writer want_of_memory [] refl sent
