-- Heads read one after another: the answer to an input.
--   Reading                      the state of a reader of heads
--   input_of remaining r         all bytes from the next head on
--   IsCallOf call h              the call has the method, the target and the close of the head h
--   whole_lines, HasFewFields    the limit on fields, of a head that isn't whole yet
--   IsBad, IsTooLong, IsCut, IsUnfinished    inputs without a call
--   IsRefused, HasNoRefusal      whole lines of which no call can come
--   IsNeeded, IsPrompt, IsPromptRefusal      no read behind a whole head, or behind lines that are refused
--   Faults, Answers              the answer to an input
use Rattle.std.specs.Prelude.{◌≡◌, ℕ, ◌+◌, ◌<◌, ◌≤◌, ◌==◌, ◌||◌, if◌then◌else◌, true, List, [], ◌∷◌, ◌++◌, length, take, count_by}
use Rattle.std.specs.Prelude.{Option, None, Some, Result, Ok, Err, ⊤, ◌⊎◌}
use Rattle.std.specs.Io.KnownBytes.{prepend_known}
use Rattle.httparse.specs.Grammar.{RequestHead, ReadsRequest, HasNoRequest, NeverHasRequest, MayBecomeRequest}
use Rattle.httparse.specs.Spans.{RequestExceeds, RequestOverflows}
use Rattle.iiif_http_front.specs.Methods.{method_text}
use Rattle.iiif_http_front.specs.RequestHeads.{byte_limit, field_limit, announces_body, closes, BeginsWithCall}
use Rattle.iiif_http_front.specs.declared.call.Call.{Call}
use Rattle.iiif_http_front.specs.declared.head_fault.HeadFault.{HeadFault}
use Rattle.iiif_http_front.specs.declared.head_fault.HeadFault.TheVariants.{Bad, TooLong, Cut, Io, NoMemory}

-- the fault's number
abbrev pub fault_number : HeadFault → ℕ
fault_number Bad = 1
fault_number TooLong = 2
fault_number Cut = 3
fault_number Io = 4
fault_number NoMemory = 5

-- the state of a reader of heads
pub record Reading (I : Type 0) : Type 0 where
  -- the bytes that were read and belong to no call yet
  pub unread : List ℕ
  pub reader : I
  -- the fault that ended it
  pub fault : Option HeadFault

-- all bytes from the next head on, where the reader's remaining bytes are known
abbrev pub input_of : {I : Type 0} → (I → Option (List ℕ)) → Reading I → Option (List ℕ)
input_of remaining r = prepend_known r.unread (remaining r.reader)

-- the call has the method, the target and the close of the head (RFC 9112, sections 3 and 9)
pub record IsCallOf (call : Call) (h : RequestHead) : Type 0 where
  pub method : method_text call.method ≡ h.method
  pub target : call.target.items ≡ h.target
  pub close : call.close ≡ closes h

-- the bytes behind the empty lines before a head (RFC 9112, section 2.2)
unfoldable pub behind_blank : List ℕ → List ℕ
behind_blank [] = []
behind_blank (b ∷ bytes) = if b == 13 || b == 10 then behind_blank bytes else b ∷ bytes

-- the number of a head's whole lines: the request line, and one for each field (RFC 9112, section 2.1)
unfoldable pub whole_lines : List ℕ → ℕ
whole_lines bytes = count_by (λ b. b == 10) (behind_blank bytes)

-- a head that isn't whole keeps the limit on fields: its request line, and a line for each
abbrev pub HasFewFields : List ℕ → Type 0
HasFewFields bytes = whole_lines bytes ≤ field_limit + 1

-- no call can come of these bytes, whatever follows (RFC 9112, sections 2.2, 5 and 6): they begin no head of the grammar, a whole head
-- with too many fields, a head with too many fields that isn't whole, or a whole head that announces a body
pub data IsBad (bytes : List ℕ) : Type 0 where
  no_head : NeverHasRequest bytes → IsBad bytes
  many_fields : RequestExceeds field_limit bytes → RequestOverflows field_limit bytes → IsBad bytes
  many_lines : (front rest : List ℕ) → bytes ≡ front ++ rest → HasNoRequest front → ¬ (HasFewFields front) → IsBad bytes
  has_body : (h : RequestHead) (rest : List ℕ) → ReadsRequest bytes h rest → announces_body h ≡ true → IsBad bytes

-- the bytes begin with whole lines that are refused, the request line among them: no call can come of these, whatever follows. A whole head
-- that isn't accepted is refused
pub record IsRefused (bytes : List ℕ) : Type 0 where
  pub lines : List ℕ
  pub rest : List ℕ
  pub all : bytes ≡ lines ++ rest
  pub ended : (front : List ℕ) × (lines ≡ front ++ 10 ∷ [])
  pub begun : 0 < whole_lines lines
  pub bad : IsBad lines

unfoldable pub HasNoRefusal : List ℕ → Type 0
HasNoRefusal bytes = ¬ (IsRefused bytes)

-- a head may have begun with these bytes, and none is whole yet: a reader that fails behind them loses no call, and no head that is to be
-- refused
pub record IsUnfinished (bytes : List ℕ) : Type 0 where
  pub not_whole : HasNoRequest bytes
  pub unfinished : MayBecomeRequest bytes
  pub few : HasFewFields bytes
  pub short : length bytes < byte_limit

-- the input has as many bytes as a head may have, and a head that may have begun doesn't end in them
pub record IsTooLong (input : List ℕ) : Type 0 where
  pub full : byte_limit ≤ length input
  pub not_whole : HasNoRequest (take byte_limit input)
  pub unfinished : MayBecomeRequest (take byte_limit input)
  pub few : HasFewFields (take byte_limit input)

-- the input ends inside a head
pub record IsCut (input : List ℕ) : Type 0 where
  pub begun : 0 < length input
  pub short : length input < byte_limit
  pub not_whole : HasNoRequest input
  pub unfinished : MayBecomeRequest input
  pub few : HasFewFields input

-- The last read was needed: before it no head was whole, and no line was refused. The buffer held the old bytes as the call began, and now
-- holds these.
pub record IsNeeded {I : Type 0} (gave : I → List ℕ → I → Type 0) (old now : List ℕ) (reader : I) : Type 0 where
  -- the bytes of all reads but the last
  pub front : List ℕ
  -- the bytes of the last read
  pub piece : List ℕ
  -- the reader before the last read
  pub before : I
  pub all : now ≡ (old ++ front) ++ piece
  pub read : gave before piece reader
  pub not_whole : HasNoRequest (old ++ front)
  pub not_refused : HasNoRefusal (old ++ front)

-- the inputs to which each fault may be returned. A failed read says nothing of the input, and memory is lacking for a call alone
abbrev pub Faults : HeadFault → List ℕ → Type 0
Faults Bad input = IsBad (take byte_limit input)
Faults TooLong input = IsTooLong input
Faults Cut input = IsCut input
Faults Io input = ⊤
Faults NoMemory input = (h : RequestHead) × (rest : List ℕ) × BeginsWithCall input h rest

-- the answer to an input, and the bytes that it leaves: a call is taken from the front, a fault leaves all
abbrev pub Answers : List ℕ → Option (List ℕ) → Result (Option Call) HeadFault → Type 0
Answers input left (Ok None) = (input ≡ []) × (left ≡ Some [])
Answers input left (Ok (Some call)) =
    (h : RequestHead) × (rest : List ℕ) × BeginsWithCall input h rest × IsCallOf call h × (left ≡ Some rest)
Answers input left (Err fault) = Faults fault input × (left ≡ Some input)

-- A call is returned as soon as its head is whole: nothing was read for it, or the last read was needed. The buffer held the old bytes
-- before, and holds what is left after.
abbrev pub IsPrompt : {I : Type 0} → (I → List ℕ → I → Type 0) → List ℕ → I → List ℕ → I → Call → Type 0
IsPrompt gave old before left after call =
    (after ≡ before) ⊎ ((bytes : List ℕ) × IsNeeded gave old bytes after × Answers bytes (Some left) (Ok (Some call)))

-- A refusal is returned as soon as the lines are whole that are refused: nothing was read for it, or the last read was needed, or no such
-- line is whole, where the input ended or failed inside one, or its first bytes begin no head. The buffer holds what is left after.
abbrev pub IsPromptRefusal : {I : Type 0} → (I → List ℕ → I → Type 0) → List ℕ → I → List ℕ → I → Type 0
IsPromptRefusal gave old before left after = (after ≡ before) ⊎ IsNeeded gave old left after ⊎ HasNoRefusal left
