-- Heads of answers (RFC 9112, sections 2, 4 and 5).
--   status_line, field_line, length_line, close_line    the lines of a head, each with its line end
--   name_and_value f                                    a field as a pair of texts
--   head_text status fields length close                the head
use Rattle.std.specs.Prelude.{ℕ, Bool, List, [], ◌∷◌, ◌++◌, codes, decimal, if◌then◌else◌}
use Rattle.std.specs.List.{flat_map}
use Rattle.iiif_http_front.specs.Statuses.{reason_phrase}
use Rattle.iiif_http_front.specs.declared.answer_head.Field.{Field}

-- CR LF (RFC 9112, section 2.2)
abbrev pub line_end : List ℕ
line_end = 13 ∷ 10 ∷ []

-- the version, the status and its reason phrase (RFC 9112, section 4; RFC 9110, section 15)
unfoldable pub status_line : ℕ → List ℕ
status_line status = codes "HTTP/1.1 " ++ decimal status ++ codes " " ++ reason_phrase status ++ line_end

-- the name and the value of a field
abbrev pub name_and_value : Field → List ℕ × List ℕ
name_and_value f = (f.name.now, f.value.now)

-- a field line (RFC 9112, section 5)
unfoldable pub field_line : List ℕ × List ℕ → List ℕ
field_line f = f.0 ++ codes ": " ++ f.1 ++ line_end

-- the length of the body in bytes (RFC 9110, section 8.6)
unfoldable pub length_line : ℕ → List ℕ
length_line length = codes "Content-Length: " ++ decimal length ++ line_end

-- the field that closes the connection, where it closes (RFC 9112, section 9.6)
unfoldable pub close_line : Bool → List ℕ
close_line close = if close then codes "Connection: close" ++ line_end else []

-- the lines of a head, and the empty line that ends it (RFC 9112, section 2.1)
unfoldable pub head_text : ℕ → List (List ℕ × List ℕ) → ℕ → Bool → List ℕ
head_text status fields length close =
    status_line status ++ flat_map field_line fields ++ length_line length ++ close_line close ++ line_end
