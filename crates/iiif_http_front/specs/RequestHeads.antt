-- Heads of requests (RFC 9112, sections 2 to 9).
--   byte_limit, field_limit           the limits on a head
--   fields_of h                       the fields as pairs of name and value
--   announces_body h, closes h        what the fields ask for
--   BeginsWithCall input h rest       the head h stands at the front of the input, and is accepted
use Rattle.std.specs.Prelude.{◌≡◌, ℕ, ◌≤◌, Bool, false, not, ◌&&◌, ◌||◌, ◌==◌, List, length, map, codes, bytes_eq}
use Rattle.std.specs.List.{list_any, slice_split}
use Rattle.std.specs.Char.{to_ascii_lowercase}
use Rattle.httparse.specs.Grammar.{RequestHead, ReadsRequest, print_request, trim_ows}
use Rattle.httparse.specs.Spans.{name_and_value}

-- the most bytes of a head; a longer one is refused (RFC 9112, section 3)
abbrev pub byte_limit : ℕ
byte_limit = 8192

-- the most fields of a head (RFC 9110, section 5.4)
abbrev pub field_limit : ℕ
field_limit = 64

-- two texts are equal but for the case of ASCII letters (RFC 9110, section 5.1)
abbrev pub is_same_word : List ℕ → List ℕ → Bool
is_same_word a b = bytes_eq (map to_ascii_lowercase a) (map to_ascii_lowercase b)

-- the names and values of the fields, in order (RFC 9112, section 5)
abbrev pub fields_of : RequestHead → List (List ℕ × List ℕ)
fields_of h = map name_and_value h.fields

-- a field that announces a body: a transfer coding, or a length other than 0 (RFC 9112, section 6)
abbrev pub is_body_field : List ℕ × List ℕ → Bool
is_body_field f = is_same_word f.0 (codes "Transfer-Encoding")
    || (is_same_word f.0 (codes "Content-Length") && not (bytes_eq f.1 (codes "0")))

-- the head announces a body
unfoldable pub announces_body : RequestHead → Bool
announces_body h = list_any is_body_field (fields_of h)

-- a list of connection options, parted by commas, has `close` (RFC 9110, section 7.6.1)
abbrev pub has_close : List ℕ → Bool
has_close value = list_any (λ option. is_same_word (trim_ows option) (codes "close")) (slice_split (λ b. b == 44) value)

-- a field that asks to close (RFC 9112, section 9.6)
abbrev pub is_close_field : List ℕ × List ℕ → Bool
is_close_field f = is_same_word f.0 (codes "Connection") && has_close f.1

-- the connection closes after the answer: in HTTP/1.0 always (RFC 9112, section 9.3)
unfoldable pub closes : RequestHead → Bool
closes h = h.minor == 0 || list_any is_close_field (fields_of h)

-- the input is an accepted head and then rest: a head of the grammar, within the limits, that announces no body
pub record BeginsWithCall (input : List ℕ) (h : RequestHead) (rest : List ℕ) : Type 0 where
  pub reads : ReadsRequest input h rest
  pub bytes : length (print_request h) ≤ byte_limit
  pub fields : length h.fields ≤ field_limit
  pub bare : announces_body h ≡ false
