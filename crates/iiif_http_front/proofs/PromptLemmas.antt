-- `ready` and `last`: a call is returned with the read that completes its head.
use Rattle.std.proofs.Common.{◌≡◌, ℕ, ◌+◌, ◌<◌, ◌⊎◌, inl, inr, List, ◌++◌, length, sym, ap, ◌∙◌, subst, arith, refl}
use Rattle.std.proofs.Common.{append_assoc, append-nil}
use Rattle.std.proofs.Common.{Option, Some, None, Result, Ok, Err, true, false, zero, suc, drop}
use Rattle.std.specs.Prelude.{IfSome, ◌==◌}
use Rattle.std.specs.List.{list_any}
use Rattle.std.proofs.Math.Seq.{drop-append-add}
use Rattle.std.specs.Io.KnownBytes.{prepend_known, Consumes, IsAtEnd}
use Rattle.httparse.specs.Grammar.{RequestHead, HasNoRequest}
use Rattle.httparse.proofs.GrammarLemmas.{ReadsRequest-append}
use Rattle.iiif_http_front.specs.declared.call.Call.{Call}
use Rattle.iiif_http_front.specs.declared.head_fault.HeadFault.{HeadFault}
use Rattle.iiif_http_front.specs.declared.head_fault.HeadFault.TheVariants.{Io, Cut}
use Rattle.iiif_http_front.specs.declared.search.Found.TheVariants.{Partial}
use Rattle.iiif_http_front.specs.RequestHeads.{BeginsWithCall}
use Rattle.iiif_http_front.specs.Reading.{Answers, IsNeeded, IsPrompt, IsRefused, HasNoRefusal, IsUnfinished}
use Rattle.iiif_http_front.specs.Code.{Finds, IsOpen, EndsWith}
use Rattle.iiif_http_front.proofs.LineLemmas.{no_request_more}
use Rattle.iiif_http_front.proofs.RefusalLemmas.{stays_further, refused-append}
use Rattle.iiif_http_front.proofs.AnswerLemmas.{found_fault, answers_here}

no_request_front : (a b : List ℕ) → HasNoRequest (a ++ b) → HasNoRequest a
no_request_front a b none h rest reads = none h (rest ++ b) (ReadsRequest-append a h rest b reads)

-- what was needed of later bytes was needed of all
pub further : {I : Type 0} (gave : I → List ℕ → I → Type 0) (old came now new : List ℕ) (reader : I) → now ≡ old ++ came →
    IsNeeded gave now new reader → IsNeeded gave old new reader
further gave old came now new reader is needed =
    let joined : now ++ needed.front ≡ old ++ (came ++ needed.front) =
    ap (λ (t : List ℕ). t ++ needed.front) is ∙ append_assoc old came needed.front in
    record {
      front = came ++ needed.front;
      piece = needed.piece;
      before = needed.before;
      all = needed.all ∙ ap (λ (t : List ℕ). t ++ needed.piece) joined;
      read = needed.read;
      not_whole = subst HasNoRequest joined needed.not_whole;
      not_refused = subst HasNoRefusal joined needed.not_refused;
    }

-- nothing was read so far, or the last read was needed
abbrev pub SoFar : {I : Type 0} → (I → List ℕ → I → Type 0) → List ℕ → List ℕ → I → I → Type 0
SoFar gave old now first reader = ((reader ≡ first) × (now ≡ old)) ⊎ IsNeeded gave old now reader

pub ready_so_far : {I : Type 0} (gave : I → List ℕ → I → Type 0) (old now : List ℕ) (first reader : I) →
    SoFar gave old now first reader
    → (h : RequestHead) (rest : List ℕ) → BeginsWithCall old h rest → reader ≡ first
ready_so_far gave old now first reader (inl same) h rest call = same.0
ready_so_far gave old now first reader (inr needed) h rest call =
    absurd (no_request_front old needed.front needed.not_whole h rest call.reads)

-- no whole call was in hand
pub none_ready : {I : Type 0} (shown bytes old came : List ℕ) (first reader : I) → shown ≡ bytes → bytes ≡ old ++ came →
    Finds shown (Ok Partial)
    → (h : RequestHead) (rest : List ℕ) → BeginsWithCall old h rest → reader ≡ first
none_ready shown bytes old came first reader same is found h rest call =
    absurd (no_request_front old came (subst HasNoRequest (same ∙ is) found.0) h rest call.reads)

pub prompt_so_far : {I : Type 0} (gave : I → List ℕ → I → Type 0) (old now left : List ℕ) (first reader : I) (call : Call) →
    SoFar gave old now first reader
    → Answers now (Some left) (Ok (Some call)) → IsPrompt gave old first left reader call
prompt_so_far gave old now left first reader call (inl same) right = inl same.0
prompt_so_far gave old now left first reader call (inr needed) right = inr (now, needed, right)

-- lines that were refused as the call began were refused before each read
pub refused_so_far : {I : Type 0} (gave : I → List ℕ → I → Type 0) (old now : List ℕ) (first reader : I) →
    SoFar gave old now first reader → IsRefused old → reader ≡ first
unfolding HasNoRefusal
refused_so_far gave old now first reader (inl same) bad = same.0
refused_so_far gave old now first reader (inr needed) bad = absurd (needed.not_refused (refused-append old needed.front bad))

-- an answer to what came is one to the whole input where that ends
pub answers_at_end : (a b : Option (List ℕ)) (old came now left : List ℕ) (r : Result (Option Call) HeadFault) → now ≡ old ++ came →
    Consumes a b came → IsAtEnd b → Answers now (Some left) r
    → IfSome (prepend_known old a) (λ input. Answers input (prepend_known left b) r)
answers_at_end None b old came now left r is took ended right = tt
answers_at_end (Some xs) None old came now left r is took ended right = absurd took
answers_at_end (Some xs) (Some ys) old came now left r is took ended right =
    let whole : now ≡ old ++ xs = is ∙ ap (λ (t : List ℕ). old ++ t)
    (sym (append-nil came) ∙ ap (λ (t : List ℕ). came ++ t) (sym ended) ∙ sym took) in
    let stays : left ≡ left ++ ys = sym (append-nil left) ∙ ap (λ (t : List ℕ). left ++ t) (sym ended) in
    subst (λ (t : List ℕ). Answers t (Some (left ++ ys)) r) whole (subst (λ (t : List ℕ). Answers now (Some t) r) stays right)

-- the input ended behind these bytes
pub cut_here : (shown bytes : List ℕ) (r : HeadFault) → shown ≡ bytes → length bytes < 8192 → 0 < length bytes → EndsWith shown Cut r →
    Answers bytes (Some bytes) (Err r)
cut_here shown bytes r same short some (inl found) =
    answers_here bytes bytes (Err r) (found_fault shown bytes r same (omega (arith, short)) found)
cut_here shown bytes r same short some (inr ended) =
    let partial = subst (λ (t : List ℕ). Finds t (Ok Partial)) same ended.1 in
    subst (λ (t : HeadFault). Answers bytes (Some bytes) (Err t)) (sym ended.0)
    (record { begun = some; short = short; not_whole = partial.0; unfinished = partial.1; few = partial.2 }, refl)

-- the reader failed behind these bytes
pub failed_here : (shown bytes : List ℕ) (r : HeadFault) → shown ≡ bytes → length bytes < 8192 → EndsWith shown Io r → (rest : List ℕ) →
    Answers (bytes ++ rest) (Some (bytes ++ rest)) (Err r)
failed_here shown bytes r same short (inl found) rest = found_fault shown bytes r same (omega (arith, short)) found rest
failed_here shown bytes r same short (inr ended) rest =
    subst (λ (t : HeadFault). Answers (bytes ++ rest) (Some (bytes ++ rest)) (Err t)) (sym ended.0) (tt, refl)

pub unfinished_here : (shown bytes : List ℕ) (r fault : HeadFault) → shown ≡ bytes → length bytes < 8192 → EndsWith shown fault r → r ≡ Io →
    IsUnfinished bytes
unfinished_here shown bytes r fault same short (inl found) is = absurd (subst (λ (t : HeadFault). Finds shown (Err t)) is found)
unfinished_here shown bytes r fault same short (inr ended) is =
    let partial = subst (λ (t : List ℕ). Finds t (Ok Partial)) same ended.1 in
    record { not_whole = partial.0; unfinished = partial.1; few = partial.2; short = short }

-- an input that ended isn't one whose reader failed
pub cut_is_not_failed : (shown : List ℕ) (r : HeadFault) → EndsWith shown Cut r → r ≡ Io → ⊥
cut_is_not_failed shown r (inl found) is = subst (λ (t : HeadFault). Finds shown (Err t)) is found
cut_is_not_failed shown r (inr ended) is = let both : Cut ≡ Io = sym ended.0 ∙ is in cc

-- no line ended in what came
pub open_further : (old piece now shown tail : List ℕ) (held : ℕ) → IsOpen old → now ≡ old ++ piece → shown ≡ now → tail ≡ drop held shown →
    held ≡ length old → list_any (λ b. b == 10) tail ≡ false → length now < 8192 → IsOpen now
open_further old piece now shown tail held still is same behind long without short =
    let start : held ≡ length old + 0 = omega (arith, long) in
    let read : tail ≡ piece =
    behind ∙ ap (drop held) (same ∙ is) ∙ ap (λ k. drop k (old ++ piece)) start ∙ drop-append-add old piece 0 in
    let ends : list_any (λ b. b == 10) piece ≡ false = ap (list_any (λ b. b == 10)) (sym read) ∙ without in
    record {
      not_whole = subst HasNoRequest (sym is) (no_request_more old piece still.not_whole ends);
      not_refused = subst HasNoRefusal (sym is) (stays_further old piece still.not_refused ends);
      short = short;
    }

pub some_there : (n : ℕ) → (n == 0) ≡ false → 0 < n
some_there zero is = let both : true ≡ false = is in cc
some_there (suc n) is = omega arith
