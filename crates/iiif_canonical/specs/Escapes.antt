-- Percent-encoding of an identifier: RFC 3986, section 2.1; IIIF Image API 3.0, section 9.
--
-- `is_unreserved`: the byte stays as it is. `escaped bytes`: all other bytes percent-encoded.
use Rattle.std.specs.Prelude.{ℕ, ◌/◌, ◌%◌, Bool, true, ◌||◌, ◌==◌, List, [], ◌∷◌, if◌then◌else◌}
use Rattle.std.specs.List.{flat_map}
use Rattle.std.specs.Char.{is_ascii_alphanumeric}
use Rattle.std.specs.Fmt.{digit_glyph}

-- RFC 3986, section 2.3: a letter, a digit, `-`, `.`, `_` or `~`
abbrev pub is_unreserved : ℕ → Bool
is_unreserved b = is_ascii_alphanumeric b || b == 45 || b == 46 || b == 95 || b == 126

-- RFC 3986, section 2.1: the byte, or `%` and its two hexadecimal digits in capitals
abbrev pub escape_of : ℕ → List ℕ
escape_of b = if is_unreserved b then b ∷ [] else (37 ∷ digit_glyph true (b / 16 % 16) ∷ digit_glyph true (b % 16) ∷ [])

-- IIIF Image API 3.0, section 9: every byte but the unreserved ones escaped
unfoldable pub escaped : List ℕ → List ℕ
escaped bytes = flat_map escape_of bytes
