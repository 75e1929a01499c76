-- The base URL of a server: RFC 3986, sections 3.1 to 3.3, in the profile that a scheme, a host, perhaps a port, and path
-- segments of unreserved characters stand there.
use Rattle.std.specs.Prelude.{ℕ, Bool, false, ◌&&◌, ◌||◌, ◌==◌, List, [], length, drop, codes, nat_eq, nat_lt, nat_le, if◌then◌else◌}
use Rattle.std.specs.Prelude.{Option, None, Some, is_some, position}
use Rattle.std.specs.Option.{option_map_or}
use Rattle.std.specs.List.{before_first, after_first, slice_split, starts_with, list_all}
use Rattle.std.specs.Char.{is_ascii_alphanumeric}
use Rattle.iiif_canonical.specs.Escapes.{is_unreserved}
use Rattle.iiif_request.specs.Numerals.{numeral_of}

abbrev pub is_slash : ℕ → Bool
is_slash b = b == 47

abbrev pub is_colon : ℕ → Bool
is_colon b = b == 58

-- section 3.2.2: letters, digits, `-` and `.`, at least one
abbrev pub is_host_byte : ℕ → Bool
is_host_byte b = is_ascii_alphanumeric b || b == 45 || b == 46

unfoldable pub is_host : List ℕ → Bool
is_host text = nat_lt 0 (length text) && list_all is_host_byte text

-- section 3.2.3: one to five digits, at most 65,535
unfoldable pub is_port : List ℕ → Bool
is_port text = option_map_or (λ n. nat_le n 65535) (numeral_of 5 text) false

-- section 3.2: a host, and a port behind the first colon where there is one
unfoldable pub is_authority : List ℕ → Bool
is_authority text =
    if is_some (position is_colon text) then is_host (before_first is_colon text) && is_port (after_first is_colon text) else is_host text

-- section 3.3: a segment that isn't empty
unfoldable pub is_segment : List ℕ → Bool
is_segment text = nat_lt 0 (length text) && list_all is_unreserved text

abbrev pub is_path : List ℕ → Bool
is_path text = list_all is_segment (slice_split is_slash text)

-- what stands behind `http://` or `https://`
unfoldable pub behind_scheme : List ℕ → Option (List ℕ)
behind_scheme url =
    if starts_with nat_eq url (codes "http://") then Some (drop 7 url) else
    (if starts_with nat_eq url (codes "https://") then Some (drop 8 url) else None)

-- The authority stands before the first slash, and the path from there on: segments, each behind a slash.
unfoldable pub is_hierarchy : List ℕ → Bool
is_hierarchy rest =
    if is_some (position is_slash rest)
    then is_authority (before_first is_slash rest) && is_path (after_first is_slash rest)
    else is_authority rest

-- The text is a base URL.
unfoldable pub is_base_url : List ℕ → Bool
is_base_url url = option_map_or is_hierarchy (behind_scheme url) false

-- the path behind an authority, from the first slash on
abbrev pub path_in : List ℕ → List ℕ
path_in rest = option_map_or (λ at. drop at rest) (position is_slash rest) []

-- the path of a base URL, which begins each target
unfoldable pub path_of : List ℕ → List ℕ
path_of url = option_map_or path_in (behind_scheme url) []
