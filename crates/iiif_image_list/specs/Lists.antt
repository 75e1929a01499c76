-- Lists of images as text: a line names an image and its file, as NAME=FILE.
use Rattle.std.specs.Prelude.{◌≡◌, ℕ, ◌+◌, ◌-◌, ◌<◌, ◌≤◌, ◌==◌, ◌||◌, ◌&&◌, ◌++◌, ◌∷◌, Bool, not, List, [], filter, map, length, take}
use Rattle.std.specs.Prelude.{drop, slice_index, slice_index_or, Option, Some, None, Result, Ok, Err, if◌then◌else◌, bytes_eq}
use Rattle.std.specs.List.{list_any, count_by, before_first, after_first, position_or_len}
use Rattle.std.specs.Str.{IsUtf8}
use Rattle.std.specs.Str.Lines.{lines}
use Rattle.std.specs.Str.Lossy.{utf8_valid_len}
use denote.Ref.{Bor}
use Rattle.iiif_keys.specs.Names.{is_name}
use Rattle.iiif_image_list.specs.declared.fault.Fault.{Fault}
use Rattle.iiif_image_list.specs.declared.fault.Fault.TheVariants.{Encoding, Parts, Blank, Name, Twice, NoMemory}

-- an image: its name, and its file's
pub record Image : Type 0 where
  pub name : List ℕ
  pub file : List ℕ

-- of this name and file
abbrev pub image_with : List ℕ → List ℕ → Image
image_with name file = record { name = name; file = file }

-- as a pair of texts
abbrev pub image : Bor (List ℕ) × Bor (List ℕ) → Image
image texts = image_with texts.0.now texts.1.now

-- the byte between a name and a file: =
abbrev pub is_between : ℕ → Bool
is_between b = b == 61

-- as they are borrowed
abbrev pub shown : List (Bor (List ℕ) × Bor (List ℕ)) → List Image
shown = map image

-- what a word names: what stands before its first =, and what stands behind it
abbrev pub image_of : List ℕ → Image
image_of word = image_with (before_first is_between word) (after_first is_between word)

-- whether there is an image of a name
abbrev pub has_name : List Image → List ℕ → Bool
has_name images name = list_any (λ i. bytes_eq name i.name) images

-- why there is no place for an image of a name beside others: it is no name, or there is an image of that name
abbrev pub refusal_of_name : List Image → List ℕ → Option Fault
refusal_of_name images name = if not (is_name name) then Some Name else (if has_name images name then Some Twice else None)

-- why a word names no image beside others: it has no =, or there is no place for an image of the name before it
unfoldable pub refusal_of : List Image → List ℕ → Option Fault
refusal_of images word =
    if position_or_len is_between word == length word then Some Parts else refusal_of_name images (image_of word).name

-- what speaks against something, or lack of memory
abbrev pub IsRefusal : Option Fault → Fault → Type 0
IsRefusal refusal NoMemory = Unit {0}
IsRefusal refusal fault = refusal ≡ Some fault

-- It is taken only where nothing speaks against it; a fault is what does, or lack of memory.
abbrev pub Takes : Option Fault → Result (Unit {0}) Fault → Type 0
Takes refusal (Ok _) = refusal ≡ None
Takes refusal (Err fault) = IsRefusal refusal fault

-- a line that names no image: it is empty, or begins with #
abbrev pub is_silent : List ℕ → Bool
is_silent line = length line == 0 || slice_index line 0 == 35

-- a space, or a tab
abbrev pub is_blank : ℕ → Bool
is_blank b = b == 32 || b == 9

-- a name that begins or ends with a blank
abbrev pub has_blank_around : List ℕ → Bool
has_blank_around name = not (length name == 0) && (is_blank (slice_index name 0) || is_blank (slice_index name (length name - 1)))

-- a line with a blank around its name
abbrev pub is_loose : List ℕ → Bool
is_loose line = not (position_or_len is_between line == length line) && has_blank_around (image_of line).name

-- the images that lines name
abbrev pub images_of : List (List ℕ) → List Image
images_of lines = map image_of (filter (λ line. not (is_silent line)) lines)

-- why a line has no place in a list, where these images are there
abbrev pub refusal_of_line : List Image → List ℕ → Option Fault
refusal_of_line images line = if is_silent line then None else (if is_loose line then Some Blank else refusal_of images line)

-- the images that are there before a line: the earlier ones, and those of the lines above
abbrev pub images_above : List Image → List (List ℕ) → ℕ → List Image
images_above images lines k = images ++ images_of (take k lines)

-- why line k, counted from 0, has no place in a list
abbrev pub refusal_at : List Image → List (List ℕ) → ℕ → Option Fault
refusal_at images lines k = refusal_of_line (images_above images lines k) (slice_index_or lines k [])

-- nothing speaks against the first n lines
abbrev pub AreTaken : List Image → List (List ℕ) → ℕ → Type 0
AreTaken images lines n = (k : ℕ) → k < n → refusal_at images lines k ≡ None

-- the line of a text, counted from 1, on which the byte at a place stands
abbrev pub line_at : List ℕ → ℕ → ℕ
line_at text place = count_by (λ b. b == 10) (take place text) + 1

-- A list ends at the first of its lines that has no place there, counted from 1. The images of the lines above it are taken.
pub record EndsAtLine (images : List Image) (lines : List (List ℕ)) (line : ℕ) (fault : Fault) (after : List Image) : Type 0 where
  pub some : 0 < line
  pub within : line ≤ length lines
  pub above : AreTaken images lines (line - 1)
  pub refused : IsRefusal (refusal_at images lines (line - 1)) fault
  pub taken : after ≡ images_above images lines (line - 1)

-- A text that isn't UTF-8 (RFC 3629) ends at the line of the first byte that isn't. None of its images is taken.
pub record EndsAtByte (images : List Image) (text : List ℕ) (line : ℕ) (fault : Fault) (after : List Image) : Type 0 where
  pub encoding : fault ≡ Encoding
  pub line_is : line ≡ line_at text (utf8_valid_len text)
  pub taken : after ≡ images

-- a text behind its byte order mark, where it begins with one (RFC 3629, section 6)
abbrev pub unmarked : List ℕ → List ℕ
unmarked text = if bytes_eq (take 3 text) (239 ∷ 187 ∷ 191 ∷ []) then drop 3 text else text

-- A text is a list of images: UTF-8, and each line has its place. Its images come behind those that are there.
pub record IsList (images : List Image) (text : List ℕ) (after : List Image) : Type 0 where
  pub utf8 : IsUtf8 text
  pub each : AreTaken images (lines text) (length (lines text))
  pub taken : after ≡ images ++ images_of (lines text)
