-- Dot segments: parts of a URI that a client removes before it asks (RFC 3986, section 5.2.4). Sections are those of RFC 3986.
--
--   is_dot_segment segment          a client removes this segment of a path
--   path_of url                     the path of a base URL, behind its first slash
--   has_dot_segment url             one of the segments of that path is removed
--   warning_of_base base            the line that warns of such a base URL
--   warning_of_name name            the line that warns of an image whose name is such a segment
--   warnings base names             all of these lines
use Rattle.std.specs.Prelude.{ℕ, Bool, ◌||◌, ◌==◌, List, [], ◌++◌, codes, if◌then◌else◌}
use Rattle.std.specs.List.{after_first, flat_map, list_any, slice_split}
use Rattle.std.specs.Str.{bytes_eq}

-- Section 3.3: "." and ".." are the dot segments. Section 5.2.4 removes them, and with ".." the segment before it; a client that
-- normalizes a URI does so too (section 6.2.2.3). In the URI of an image its name is a segment, where "." stands as it is.
abbrev pub is_dot_segment : List ℕ → Bool
is_dot_segment segment = bytes_eq segment (codes ".") || bytes_eq segment (codes "..")

-- Section 3.3: segments have a slash between them.
abbrev pub is_slash : ℕ → Bool
is_slash b = b == 47

-- Sections 3 and 3.2: the first two slashes stand in front of the authority, and the path begins with the third.
abbrev pub path_of : List ℕ → List ℕ
path_of url = after_first is_slash (after_first is_slash (after_first is_slash url))

-- a dot segment in the path of a base URL is one in the path of each image's URI
abbrev pub has_dot_segment : List ℕ → Bool
has_dot_segment url = list_any is_dot_segment (slice_split is_slash (path_of url))

-- the line, where there is something to warn of
abbrev pub warning_of_base : List ℕ → List ℕ
warning_of_base base =
    if has_dot_segment base
    then codes "warning: base " ++ base ++ codes ": clients remove the segments . and .. of a URI before they ask for it\n"
    else []

-- the line, where there is something to warn of
abbrev pub warning_of_name : List ℕ → List ℕ
warning_of_name name =
    if is_dot_segment name
    then codes "warning: image " ++ name ++ codes ": clients remove the segments . and .. of a URI before they ask for it\n"
    else []

-- the base URL first, and then the images in their order
abbrev pub warnings : List ℕ → List (List ℕ) → List ℕ
warnings base names = warning_of_base base ++ flat_map warning_of_name names
