-- A connection: what is written for what was read, and why it ends (RFC 9112, section 9).
use Rattle.std.specs.Prelude.{◌≡◌, ℕ, ◌+◌, ◌⊎◌, ◌==◌, ◌||◌, Bool, true, false, List, [], ◌++◌, Ok, Err}
use Rattle.httparse.specs.Grammar.{RequestHead}
use Rattle.iiif_http_front.specs.Reading.{Faults, IsUnfinished}
use Rattle.iiif_http_front.specs.RequestHeads.{closes, BeginsWithCall}
use Rattle.iiif_http_front.specs.declared.head_fault.HeadFault.TheVariants.{Bad, TooLong, Cut, NoMemory}
use Rattle.iiif_request.specs.declared.request.Refusal.TheVariants as refusal
use Rattle.iiif_source.specs.declared.ReadFault.{ReadFault}
use Rattle.iiif_answers.specs.Allowed.{Allowed}
use Rattle.iiif_answers.specs.Calls.{RepliesToCall, part_of}
use Rattle.iiif_tile_group.specs.Collection.{Item}
use Rattle.iiif_answers.specs.Responses.{Response, refusal_response, want_of_memory, written}
use Rattle.iiif_answers.specs.Sent.{text_of}
use Rattle.iiif_io.specs.Sending.{IsStrictPrefix}
use Rattle.iiif_answers.specs.Settings.{Settings}
use Rattle.iiif_answers.specs.declared.answer.Sent.{Sent}
use Rattle.iiif_answers.specs.declared.answer.Cut as cut
use Rattle.iiif_answers.specs.declared.part.Part.TheVariants.{Whole}

-- the most calls of one connection
abbrev pub call_limit : ℕ
call_limit = 1000

-- the n-th call closes the connection: its head says so, or it is the last that is answered
abbrev pub closes_after : ℕ → RequestHead → Bool
closes_after n h = closes h || n == call_limit

-- What a connection rests on. whole h close text: the text may be sent, all of it, for the call of that head, in an answer that
-- closes the connection where close is true. part h close text: it may be all that is sent of an answer that is cut off.
-- reader and writer: that device failed.
pub record Terms : Type 1 where
  pub whole : RequestHead → Bool → List ℕ → Type 0
  pub part : RequestHead → Bool → List ℕ → Type 0
  pub reader : Type 0
  pub writer : Type 0

-- an answer to no call, which closes the connection
abbrev pub closing : Response → List ℕ
closing r = text_of (written (Whole true) r)

-- it is sent, or a strict prefix of it before the writer failed
abbrev pub IsClosing : Type 0 → Response → List ℕ → Type 0
IsClosing writer r text = (text ≡ closing r) ⊎ (writer × IsStrictPrefix text (closing r))

-- Memory may be lacking for a call that came, or for the answer to a head that is at fault. Where the input just ends, or the reader
-- failed, nothing is said of memory, at the first call as at any other.
abbrev pub MayLackMemory : List ℕ → Type 0
MayLackMemory input = Faults NoMemory input ⊎ Faults Bad input ⊎ Faults TooLong input

-- Stream t n input output: the n-th call is the next, at the front of the input, and output is what is yet written.
-- Each end has its cause: where the reader failed, no call is left of what came.
pub data Stream (t : Terms) : ℕ → List ℕ → List ℕ → Type 0 where
  goes_on : (n : ℕ) (input rest text output : List ℕ) (h : RequestHead) → BeginsWithCall input h rest → closes_after n h ≡ false
      → t.whole h false text → Stream t (n + 1) rest output → Stream t n input (text ++ output)
  closed : (n : ℕ) (input rest text : List ℕ) (h : RequestHead) → BeginsWithCall input h rest → closes_after n h ≡ true
      → t.whole h true text → Stream t n input text
  cut_off : (n : ℕ) (input rest text : List ℕ) (h : RequestHead) → BeginsWithCall input h rest
      → t.part h (closes_after n h) text → Stream t n input text
  ended : (n : ℕ) → Stream t n [] []
  head_cut : (n : ℕ) (input : List ℕ) → Faults Cut input → Stream t n input []
  reader_failed : (n : ℕ) (input : List ℕ) → t.reader → IsUnfinished input → Stream t n input []
  no_head : (n : ℕ) (input text : List ℕ) → (Faults Bad input ⊎ Faults TooLong input)
      → IsClosing t.writer (refusal_response refusal.Head) text → Stream t n input text
  no_memory : (n : ℕ) (input text : List ℕ) → MayLackMemory input → IsClosing t.writer want_of_memory text → Stream t n input text

-- The terms of a server: each call is answered as the rule of answers allows.
abbrev pub terms : {S : Type 0} → (S → List ℕ) → (S → Type 0) → Bool → (S → ReadFault → Bool) → Settings → List (Item S) → Type 0 → Type 0 →
    Terms
terms bytes keeps honest gave settings items reader writer = record {
  whole = λ h close text.
      (sent : Sent) × Allowed settings (part_of h.method close) gave (RepliesToCall bytes keeps honest settings items h.method h.target)
      writer text (Ok sent);
  part = λ h close text.
      (c : cut.Cut) × Allowed settings (part_of h.method close) gave (RepliesToCall bytes keeps honest settings items h.method h.target)
      writer text (Err c);
  reader = reader;
  writer = writer;
}

-- What came of an input: all of it, or a first part where the reader failed.
abbrev pub IsCame : Type 0 → List ℕ → List ℕ → Type 0
IsCame reader input came = (came ≡ input) ⊎ (reader × ((rest : List ℕ) × (input ≡ came ++ rest)))

-- A whole connection: its calls from the first on; or memory was lacking as it began, whatever its input is, and the answer to that
-- alone is sent.
abbrev pub IsConnection : Terms → List ℕ → List ℕ → Type 0
IsConnection t input output = Stream t 1 input output ⊎ IsClosing t.writer want_of_memory output
