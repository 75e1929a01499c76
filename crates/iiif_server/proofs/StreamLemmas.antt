-- A connection, from what its calls were sent.
use Rattle.std.proofs.Common.{◌≡◌, ℕ, ◌+◌, Bool, true, false, not, ◌||◌, List, [], ◌++◌, Option, Some, None, Result, Ok, Err, sym, subst}
use Rattle.std.proofs.Common.{refl, ap, ◌∙◌, inl, inr, append_assoc}
use Rattle.std.specs.Prelude.{◌==◌, IfOk, IfErr, IfSome}
use Rattle.std.specs.Io.KnownBytes.{Appends, prepend_known}
use Rattle.std.proofs.KnownBytes.{Appends-nil, Appends-trans, prepend_known-nil}
use Rattle.httparse.specs.Grammar.{RequestHead, print_request}
use Rattle.iiif_http_front.specs.Reading.{Answers, IsUnfinished, Reading, input_of}
use Rattle.iiif_http_front.specs.Methods.{method_text}
use Rattle.iiif_http_front.specs.declared.call.Call.{Call}
use Rattle.iiif_http_front.specs.declared.head_fault.HeadFault.TheVariants as fault
use Rattle.iiif_request.specs.declared.request.Refusal.TheVariants as refusal
use Rattle.iiif_http_front.specs.RequestHeads.{BeginsWithCall}
use Rattle.iiif_source.specs.declared.ReadFault.{ReadFault}
use Rattle.iiif_server.specs.Code.{CloseFor, GoesOn, IsAnswered, Served}
use Rattle.iiif_tile_group.specs.Collection.{Item}
use Rattle.iiif_answers.specs.Responses.{Response, refusal_response, want_of_memory, written}
use Rattle.iiif_answers.specs.Sent.{answer_of, Answer, EndsWith, IsSent}
use Rattle.iiif_answers.specs.Settings.{Settings}
use Rattle.iiif_answers.specs.Streams.{Terms, Stream, IsCame, IsConnection, terms, call_limit, closes_after, IsClosing, goes_on, closed}
use Rattle.iiif_answers.specs.Streams.{cut_off, ended, head_cut, reader_failed, no_memory, no_head, MayLackMemory}
use Rattle.iiif_answers.specs.declared.answer.Sent.{Sent}
use Rattle.iiif_answers.specs.declared.answer.Cut.{Cut}
use Rattle.iiif_answers.specs.declared.message.Message.{Message}
use Rattle.iiif_answers.specs.declared.part.Part.TheVariants.{Whole}

-- an answer to no call was sent with that result
pub closing_sent : (writer : Type 0) (r : Response) (text : List ℕ) (result : Result Sent Cut) →
    EndsWith writer (written (Whole true) r) text result → IsClosing writer r text
closing_sent writer r text (Ok sent) ends = inl ends.0
closing_sent writer r text (Err cut) ends = inr (ends.2, ends.3)

-- a call was answered whole
served_whole : (t : Terms) (n : ℕ) (input rest : List ℕ) (left : Option (List ℕ)) (text : List ℕ) (h : RequestHead) (close : Bool)
    → BeginsWithCall input h rest → left ≡ Some rest → close ≡ closes_after n h → t.whole h close text →
    Served t n input left text (not close)
served_whole t n input rest left text h true begins is e whole = (input, inl refl, closed n input rest text h begins (sym e) whole)
served_whole t n input rest left text h false begins is e whole = (h, rest, begins, sym e, whole, is)

-- an answer was cut off
served_partly : (t : Terms) (n : ℕ) (input rest text : List ℕ) (h : RequestHead) (close : Bool)
    → BeginsWithCall input h rest → close ≡ closes_after n h → t.part h close text → Stream t n input text
served_partly t n input rest text h close begins e part =
    cut_off n input rest text h begins (subst (λ (c : Bool). t.part h c text) e part)

-- the answer to no head, or that to lack of memory
closes_for_head : (t : Terms) (n : ℕ) (input text : List ℕ) (r : Response) → MayLackMemory input → CloseFor t.writer r text
    → (IsClosing t.writer r text → Stream t n input text) → Stream t n input text
closes_for_head t n input text r may (inl sent) to = to sent
closes_for_head t n input text r may (inr sent) to = no_memory n input text may sent

-- the answer to no head, or that to lack of memory, was sent
pub head_closing : {W E : Type 0} (a : Response) (contents : W → Option (List ℕ)) (fails : W → W → Type 0) (old new : W)
    (m : Result Message E) (result : Result Sent Cut)
    → IfOk m (λ x. answer_of x ≡ written (Whole true) a)
    → IfOk m (λ x. IsSent contents fails old new (answer_of x) result) →
    IfErr m (λ _. IsSent contents fails old new (written (Whole true) want_of_memory) result)
    → (text : List ℕ) × Appends (contents old) (contents new) text × CloseFor ((before : W) × fails before new) a text
head_closing {W} a contents fails old new (Ok x) result is made memory = (
  made.0,
  made.1,
  inl (closing_sent ((before : W) × fails before new) a made.0 result
      (subst (λ (b : Answer). EndsWith ((before : W) × fails before new) b made.0 result) is made.2)),
)
head_closing {W} a contents fails old new (Err e) result is made memory =
    (memory.0, memory.1, inr (closing_sent ((before : W) × fails before new) want_of_memory memory.0 result memory.2))

-- the text of a call's answer, told by its head
served_call : {S : Type 0} (bytes : S → List ℕ) (keeps : S → Type 0) (honest : Bool) (gave : S → ReadFault → Bool) (s : Settings)
    (items : List (Item S)) (reader writer : Type 0)
    (n : ℕ) (input rest : List ℕ) (left : Option (List ℕ)) (text : List ℕ) (h : RequestHead) (close more : Bool) →
    BeginsWithCall input h rest → left ≡ Some rest
    → close ≡ closes_after n h → IsAnswered bytes keeps honest gave s items writer h.method h.target close text more
    → Served (terms bytes keeps honest gave s items reader writer) n input left text more
served_call bytes keeps honest gave s items reader writer n input rest left text h close more begins is e (inl whole) =
    let t = terms bytes keeps honest gave s items reader writer in
    subst (λ (m : Bool). Served t n input left text m) (sym whole.1) (served_whole t n input rest left text h close begins is e whole.0)
served_call bytes keeps honest gave s items reader writer n input rest left text h close more begins is e (inr part) =
    let t = terms bytes keeps honest gave s items reader writer in
    let over : Served t n input left text false = (input, inl refl, served_partly t n input rest text h close begins e part.0) in
    subst (λ (m : Bool). Served t n input left text m) (sym part.1) over

-- the same, from what was answered to the input
pub next_call : {S : Type 0} (bytes : S → List ℕ) (keeps : S → Type 0) (honest : Bool) (gave : S → ReadFault → Bool) (s : Settings)
    (items : List (Item S)) (reader writer : Type 0)
    (n : ℕ) (input left : Option (List ℕ)) (call shut : Call) (more : Bool) (old new : Option (List ℕ))
    → IfSome input (λ i. Answers i left (Ok (Some call))) → shut.method ≡ call.method → shut.target.items ≡ call.target.items →
    shut.close ≡ (call.close || n == call_limit)
    → ((text : List ℕ) × Appends old new text ×
    IsAnswered bytes keeps honest gave s items writer (method_text shut.method) shut.target.items shut.close text more)
    → IfSome input (λ i. (text : List ℕ) × Appends old new text ×
    Served (terms bytes keeps honest gave s items reader writer) n i left text more)
next_call bytes keeps honest gave s items reader writer n None left call shut more old new answers m t c sent = tt
next_call bytes keeps honest gave s items reader writer n (Some input) left call shut more old new answers m t c sent =
    let is = answers.3 in
    let method : method_text shut.method ≡ answers.0.method = ap method_text m ∙ is.method in
    let target : shut.target.items ≡ answers.0.target = t ∙ is.target in
    let close : shut.close ≡ closes_after n answers.0 = c ∙ ap (λ (b : Bool). b || n == call_limit) is.close in
    let first = subst (λ (x : List ℕ). IsAnswered bytes keeps honest gave s items writer x shut.target.items shut.close sent.0 more) method
    sent.2 in
    let second = subst (λ (x : List ℕ). IsAnswered bytes keeps honest gave s items writer answers.0.method x shut.close sent.0 more) target
    first in (
      sent.0,
      sent.1,
      served_call bytes keeps honest gave s items reader writer n input answers.1 left sent.0 answers.0 shut.close more answers.2 answers.4
          close second,
    )

-- what was written where a connection ends, with what came of the input
abbrev pub Ends : Terms → ℕ → Option (List ℕ) → Option (List ℕ) → List ℕ → Type 0
Ends t n old new input = (text : List ℕ) × Appends old new text × ((came : List ℕ) × IsCame t.reader input came × Stream t n came text)

-- no call is left, or the input ends inside a head: nothing is sent
pub next_none : (t : Terms) (n : ℕ) (input left written : Option (List ℕ)) → IfSome input (λ i. Answers i left (Ok None)) →
    IfSome input (Ends t n written written)
next_none t n None left written answers = tt
next_none t n (Some input) left written answers =
    ([], Appends-nil written, (input, inl refl, subst (λ (i : List ℕ). Stream t n i []) (sym answers.0) (ended n)))

pub next_cut : (t : Terms) (n : ℕ) (input left written : Option (List ℕ)) → IfSome input (λ i. Answers i left (Err fault.Cut)) →
    IfSome input (Ends t n written written)
next_cut t n None left written answers = tt
next_cut t n (Some input) left written answers = ([], Appends-nil written, (input, inl refl, head_cut n input answers.0))

-- the reader failed behind the bytes that are unread
pub next_failed : (t : Terms) (n : ℕ) (input : Option (List ℕ)) (unread : List ℕ) (behind written : Option (List ℕ)) → t.reader →
    IsUnfinished unread
    → IfSome input (λ i. Answers i (prepend_known unread behind) (Err fault.Io)) → IfSome input (Ends t n written written)
next_failed t n None unread behind written failed none answers = tt
next_failed t n (Some input) unread None written failed none answers = let never : None ≡ Some input = answers.1 in cc
next_failed t n (Some input) unread (Some rest) written failed none answers =
    let same : Some (unread ++ rest) ≡ Some input = answers.1 in
    let is : input ≡ unread ++ rest = cc in
    ([], Appends-nil written, (unread, inr (failed, (rest, is)), reader_failed n unread failed none))

-- the same of the bytes that came
pub next_failed_here : (t : Terms) (n : ℕ) (input unread : List ℕ) (written : Option (List ℕ)) → t.reader → IsUnfinished unread
    → Answers input (Some unread) (Err fault.Io) → Ends t n written written input
next_failed_here t n input unread written failed none answers =
    let same : Some unread ≡ Some input = answers.1 in
    let is : unread ≡ input = cc in
    ([], Appends-nil written, (unread, inl is, reader_failed n unread failed none))

-- the answer to no head was sent
pub next_bad : (t : Terms) (n : ℕ) (input left old new : Option (List ℕ)) → IfSome input (λ i. Answers i left (Err fault.Bad))
    → ((text : List ℕ) × Appends old new text × CloseFor t.writer (refusal_response refusal.Head) text) → IfSome input (Ends t n old new)
next_bad t n None left old new answers sent = tt
next_bad t n (Some input) left old new answers sent = (
  sent.0,
  sent.1,
  (
    input,
    inl refl,
    closes_for_head t n input sent.0 (refusal_response refusal.Head) (inr (inl answers.0)) sent.2
        (λ is. no_head n input sent.0 (inl answers.0) is),
  ),
)

pub next_too_long : (t : Terms) (n : ℕ) (input left old new : Option (List ℕ)) → IfSome input (λ i. Answers i left (Err fault.TooLong))
    → ((text : List ℕ) × Appends old new text × CloseFor t.writer (refusal_response refusal.Head) text) → IfSome input (Ends t n old new)
next_too_long t n None left old new answers sent = tt
next_too_long t n (Some input) left old new answers sent = (
  sent.0,
  sent.1,
  (
    input,
    inl refl,
    closes_for_head t n input sent.0 (refusal_response refusal.Head) (inr (inr answers.0)) sent.2
        (λ is. no_head n input sent.0 (inr answers.0) is),
  ),
)

-- that to lack of memory was sent
pub next_no_memory : (t : Terms) (n : ℕ) (input old new : Option (List ℕ)) → IfSome input MayLackMemory
    → ((text : List ℕ) × Appends old new text × IsClosing t.writer want_of_memory text) → IfSome input (Ends t n old new)
next_no_memory t n None old new may sent = tt
next_no_memory t n (Some input) old new may sent = (sent.0, sent.1, (input, inl refl, no_memory n input sent.0 may sent.2))

-- a call came for which memory is lacking
pub lacks_for_a_call : (input left : Option (List ℕ)) → IfSome input (λ i. Answers i left (Err fault.NoMemory)) →
    IfSome input MayLackMemory
lacks_for_a_call None left answers = tt
lacks_for_a_call (Some input) left answers = inl answers.0

-- what was written for a whole connection, with what came of the input
abbrev pub IsWritten : Terms → Option (List ℕ) → Option (List ℕ) → List ℕ → Type 0
IsWritten t old new input = (text : List ℕ) × Appends old new text ×
    ((came : List ℕ) × IsCame t.reader input came × IsConnection t came text)

-- memory was lacking as the connection began
pub none_at_start : (t : Terms) (input old new : Option (List ℕ))
    → ((text : List ℕ) × Appends old new text × IsClosing t.writer want_of_memory text) → IfSome input (IsWritten t old new)
none_at_start t None old new sent = tt
none_at_start t (Some input) old new sent = (sent.0, sent.1, (input, inl refl, inr sent.2))

-- the same of the bytes that came: none were read
pub none_at_start_here : (t : Terms) (old new : Option (List ℕ))
    → ((text : List ℕ) × Appends old new text × IsClosing t.writer want_of_memory text)
    → (came : List ℕ) × (output : List ℕ) × Appends old new output × IsConnection t came output
none_at_start_here t old new sent = ([], sent.0, sent.1, inr sent.2)

-- ---- A connection from its first call on

-- What was written for the calls before the n-th, whose bytes are done: whatever may be written for what comes behind them
-- makes it a connection's output. t: what the connection rests on, by the state in which the writer is left.
abbrev pub SoFar : {W : Type 0} → (W → Terms) → ℕ → List ℕ → Option (List ℕ) → Option (List ℕ) → Type 0
SoFar {W} t n done old new = (front : List ℕ) × Appends old new front
    × ((after : W) (bytes more : List ℕ) → Stream (t after) n bytes more → Stream (t after) 1 (done ++ bytes) (front ++ more))

-- the same of an input that is known, of which rest is left
abbrev pub GoesOnSo : {W : Type 0} → (W → Terms) → ℕ → Option (List ℕ) → Option (List ℕ) → Option (List ℕ) → Option (List ℕ) → Type 0
GoesOnSo t n input left old new =
    IfSome input (λ i. (done : List ℕ) × (rest : List ℕ) × (i ≡ done ++ rest) × (left ≡ Some rest) × SoFar t n done old new)

-- and of the bytes that came, where those that the reader has left are not known
abbrev pub CameSo : {W : Type 0} → (W → Terms) → ℕ → Option (List ℕ) → Option (List ℕ) → Type 0
CameSo t n old new = (done : List ℕ) × SoFar t n done old new

nothing_so_far : {W : Type 0} (t : W → Terms) (written : Option (List ℕ)) → SoFar t 1 [] written written
nothing_so_far t written = ([], Appends-nil written, λ after bytes more stream. stream)

pub begins_so : {W : Type 0} (t : W → Terms) (input left written : Option (List ℕ)) → left ≡ input → GoesOnSo t 1 input left written written
begins_so t None left written same = tt
begins_so t (Some input) left written same = ([], input, refl, same, nothing_so_far t written)

pub nothing_came : {W : Type 0} (t : W → Terms) (written : Option (List ℕ)) → CameSo t 1 written written
nothing_came t written = ([], nothing_so_far t written)

-- a call's head stands at the front of any bytes behind it
call_before : (input rest bytes : List ℕ) (h : RequestHead) → BeginsWithCall input h rest →
    BeginsWithCall (print_request h ++ bytes) h bytes
call_before input rest bytes h begins = record {
  reads = (begins.reads.0, refl);
  bytes = begins.bytes;
  fields = begins.fields;
  bare = begins.bare;
}

-- two texts joined behind two others
regrouped : (t : Terms) (done head bytes front text more : List ℕ) → Stream t 1 (done ++ (head ++ bytes)) (front ++ (text ++ more))
    → Stream t 1 ((done ++ head) ++ bytes) ((front ++ text) ++ more)
regrouped t done head bytes front text more stream =
    let first = subst (λ (o : List ℕ). Stream t 1 (done ++ (head ++ bytes)) o) (sym (append_assoc front text more)) stream in
    subst (λ (i : List ℕ). Stream t 1 i ((front ++ text) ++ more)) (sym (append_assoc done head bytes)) first

-- what is sent whole is the same in each state of the writer
abbrev pub SameWhole : {W : Type 0} → (W → Terms) → Type 0
SameWhole {W} t = (a b : W) (h : RequestHead) (close : Bool) (text : List ℕ) → (t a).whole h close text → (t b).whole h close text

further : {W : Type 0} (t : W → Terms) (n : ℕ) (done input : List ℕ) (left old mid new : Option (List ℕ)) (now : W) (text : List ℕ) →
    SameWhole t → SoFar t n done old mid
    → Appends mid new text → (call : GoesOn (t now) n input left text) → SoFar t (n + 1) (done ++ print_request call.0) old new
further t n done input left old mid new now text same on sent call = (
  on.0 ++ text,
  Appends-trans old mid new on.0 text on.1 sent,
  λ after bytes more stream.
      regrouped (t after) done (print_request call.0) bytes on.0 text more
      (on.2 after (print_request call.0 ++ bytes) (text ++ more)
      (goes_on n (print_request call.0 ++ bytes) bytes text more call.0 (call_before input call.1 bytes call.0 call.2) call.3
      (same now after call.0 false text call.4) stream)),
)

known : (P : List ℕ → Type 0) (left : Option (List ℕ)) (rest : List ℕ) → left ≡ Some rest → IfSome left P → P rest
known P left rest is holds = let at : IfSome (Some rest) P = subst (λ (o : Option (List ℕ)). IfSome o P) is holds in at

-- a call was answered, and the connection goes on
pub goes_further : {W : Type 0} (t : W → Terms) (n : ℕ) (input left after old mid new : Option (List ℕ)) (now : W) (more : Bool) →
    SameWhole t → more ≡ true
    → GoesOnSo t n input left old mid → IfSome left (λ i. (text : List ℕ) × Appends mid new text × Served (t now) n i after text more)
    → GoesOnSo t (n + 1) input after old new
goes_further t n None left after old mid new now more same is_more on sent = tt
goes_further t n (Some input) left after old mid new now more same is_more on sent =
    let call = known (λ i. (text : List ℕ) × Appends mid new text × Served (t now) n i after text more) left on.1 on.3 sent in
    let served : GoesOn (t now) n on.1 after call.0 = subst (λ (b : Bool). Served (t now) n on.1 after call.0 b) is_more call.2 in
    let head : List ℕ = print_request served.0 in (
      on.0 ++ head,
      served.1,
      on.2 ∙ ap (λ (r : List ℕ). on.0 ++ r) served.2.reads.1 ∙ sym (append_assoc on.0 head served.1),
      served.5,
      further t n on.0 on.1 after old mid new now call.0 same on.4 call.1 served,
    )

pub came_further : {W : Type 0} (t : W → Terms) (n : ℕ) (unread : List ℕ) (after old mid new : Option (List ℕ)) (now : W) (more : Bool) →
    SameWhole t → more ≡ true
    → CameSo t n old mid → ((came : List ℕ) × (text : List ℕ) × Appends mid new text × Served (t now) n (unread ++ came) after text more) →
    CameSo t (n + 1) old new
came_further t n unread after old mid new now more same is_more on sent =
    let served : GoesOn (t now) n (unread ++ sent.0) after sent.1 =
    subst (λ (b : Bool). Served (t now) n (unread ++ sent.0) after sent.1 b) is_more sent.3 in
    (on.0 ++ print_request served.0, further t n on.0 (unread ++ sent.0) after old mid new now sent.1 same on.1 sent.2 served)

came_of : (reader : Type 0) (input done rest came : List ℕ) → input ≡ done ++ rest → IsCame reader rest came →
    IsCame reader input (done ++ came)
came_of reader input done rest came whole (inl same) = inl (ap (λ (r : List ℕ). done ++ r) same ∙ sym whole)
came_of reader input done rest came whole (inr failed) =
    inr (failed.0, (failed.1.0, whole ∙ ap (λ (r : List ℕ). done ++ r) failed.1.1 ∙ sym (append_assoc done came failed.1.0)))

-- the connection has ended
pub ends_so : {W : Type 0} (t : W → Terms) (n : ℕ) (input left after old mid new : Option (List ℕ)) (now : W) (more : Bool) → more ≡ false →
    GoesOnSo t n input left old mid
    → IfSome left (λ i. (text : List ℕ) × Appends mid new text × Served (t now) n i after text more) →
    IfSome input (IsWritten (t now) old new)
ends_so t n None left after old mid new now more is_last on sent = tt
ends_so t n (Some input) left after old mid new now more is_last on sent =
    let call = known (λ i. (text : List ℕ) × Appends mid new text × Served (t now) n i after text more) left on.1 on.3 sent in
    let served : (came : List ℕ) × IsCame (t now).reader on.1 came × Stream (t now) n came call.0 =
    subst (λ (b : Bool). Served (t now) n on.1 after call.0 b) is_last call.2 in (
      on.4.0 ++ call.0,
      Appends-trans old mid new on.4.0 call.0 on.4.1 call.1,
      (on.0 ++ served.0, came_of (t now).reader input on.0 on.1 served.0 on.2 served.1, inl (on.4.2 now served.0 call.0 served.2)),
    )

pub came_at_end : {W : Type 0} (t : W → Terms) (n : ℕ) (unread : List ℕ) (after old mid new : Option (List ℕ)) (now : W) (more : Bool) →
    more ≡ false → CameSo t n old mid
    → ((came : List ℕ) × (text : List ℕ) × Appends mid new text × Served (t now) n (unread ++ came) after text more)
    → (came : List ℕ) × (output : List ℕ) × Appends old new output × IsConnection (t now) came output
came_at_end t n unread after old mid new now more is_last on sent =
    let served : (came : List ℕ) × IsCame (t now).reader (unread ++ sent.0) came × Stream (t now) n came sent.1 =
    subst (λ (b : Bool). Served (t now) n (unread ++ sent.0) after sent.1 b) is_last sent.3 in
    (on.0 ++ served.0, on.1.0 ++ sent.1, Appends-trans old mid new on.1.0 sent.1 on.1.1 sent.2, inl (on.1.2 now served.0 sent.1 served.2))

-- the input of a new reader of heads is its reader's
pub at_start : {R : Type 0} (remaining : R → Option (List ℕ)) (heads : Reading R) (reader : R)
    → heads ≡ record { unread = []; reader = reader; fault = None } → input_of remaining heads ≡ remaining reader
at_start remaining heads reader is = ap (input_of remaining) is ∙ prepend_known-nil (remaining reader)
