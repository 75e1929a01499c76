-- Laws of inputs and answers, the contracts of the functions of the module `laws`.
--   BeginsWithOneCall, AnswersEachCall            of the calls of an input
--   IsPlainField, is_plain_field                  a field that a parser reads back, and the test
--   PlainFieldsAreTested, WrittenHeadReadsBack    of the heads of answers
use Rattle.std.specs.Prelude.{◌≡◌, true, ◌&&◌, bytes_eq, ℕ, ◌^◌, ◌<◌, ◌⊎◌, Bool, List, [], ◌∷◌, ◌++◌, All, map, codes, decimal}
use Rattle.std.specs.Prelude.{if◌then◌else◌, Option, Some, Result, Ok, Err}
use Rattle.std.specs.List.{list_all}
use Rattle.httparse.specs.Grammar.{AllPass, is_uri_byte, is_value_byte, IsToken, is_token, trim_ows, RequestHead, ResponseHead}
use Rattle.httparse.specs.Grammar.{ReadsResponse, status_code}
use Rattle.httparse.specs.Spans.{name_and_value}
use Rattle.iiif_http_front.specs.AnswerHeads.{head_text}
use Rattle.iiif_http_front.specs.RequestHeads.{BeginsWithCall}
use Rattle.iiif_http_front.specs.Reading.{IsCallOf, Answers}
use Rattle.iiif_http_front.specs.Statuses.{IsStatusCode}
use Rattle.iiif_http_front.specs.declared.call.Call.{Call}
use Rattle.iiif_http_front.specs.declared.head_fault.HeadFault.{HeadFault}
use Rattle.iiif_http_front.specs.declared.head_fault.HeadFault.TheVariants.{Io, NoMemory}

-- an input begins with at most one call
abbrev pub BeginsWithOneCall : Type 0
BeginsWithOneCall =
    (input : List ℕ) (h k : RequestHead) (rest left : List ℕ)
    → BeginsWithCall input h rest → BeginsWithCall input k left → (h ≡ k) × (rest ≡ left)

-- a call at the front of the input is returned, unless the reader failed or memory is lacking
abbrev pub AnswersEachCall : Type 0
AnswersEachCall =
    (input : List ℕ) (h : RequestHead) (rest : List ℕ) (left : Option (List ℕ)) (answer : Result (Option Call) HeadFault)
    → BeginsWithCall input h rest → Answers input left answer
    → ((call : Call) × (answer ≡ Ok (Some call)) × IsCallOf call h × (left ≡ Some rest)) ⊎ (answer ≡ Err Io) ⊎ (answer ≡ Err NoMemory)

-- a field that survives writing and parsing: its name is a token, and its value has no control byte and no white space at its ends
-- (RFC 9110, sections 5.1 and 5.5)
pub record IsPlainField (f : List ℕ × List ℕ) : Type 0 where
  pub name : IsToken f.0
  pub value : AllPass is_value_byte f.1
  pub trimmed : trim_ows f.1 ≡ f.1

-- tests for a plain field
abbrev pub is_plain_field : List ℕ × List ℕ → Bool
is_plain_field f = is_token f.0 && (list_all is_value_byte f.1 && bytes_eq (trim_ows f.1) f.1)

-- A field that passes the test is plain. So is one whose name is a token and whose value has only visible bytes and bytes past ASCII;
-- such values may be joined.
abbrev pub PlainFieldsAreTested : Type 0
PlainFieldsAreTested =
    ((f : List ℕ × List ℕ) → is_plain_field f ≡ true → IsPlainField f)
    × ((name value : List ℕ) → is_token name ≡ true → list_all is_uri_byte value ≡ true → IsPlainField (name, value))

-- the field that closes the connection, where it closes (RFC 9112, section 9.6)
abbrev pub close_fields : Bool → List (List ℕ × List ℕ)
close_fields close = if close then (codes "Connection", codes "close") ∷ [] else []

-- the text of a head is a response head in the standard's grammar (RFC 9112, sections 2 to 5), of HTTP/1.1, with the status and the
-- fields in their order and then the length, and nothing stands behind it
abbrev pub WrittenHeadReadsBack : Type 0
WrittenHeadReadsBack =
    (status : ℕ) (fields : List (List ℕ × List ℕ)) (n : ℕ) (close : Bool)
    → IsStatusCode status → All IsPlainField fields → n < 2 ^ 64
    → (h : ResponseHead) × ReadsResponse (head_text status fields n close) h [] × (h.minor ≡ 1) × (status_code h ≡ status)
    × (map name_and_value h.fields ≡ fields ++ (codes "Content-Length", decimal n) ∷ close_fields close)
