-- Manifests: lists of files' SHA-256 digests as text, a line a file, as `sha256sum` writes them and as BagIt's `manifest-sha256.txt` is
-- (RFC 8493, section 2.1.3): the digest in hexadecimal, white space, and the file's name.
--
--   Entry             a file's name and its digest
--   entry_of          the entry of a line
--   refusal_of_line   why a line is no entry beside others
--   IsManifest        a text's entries
--   EndsAtLine        the first line at fault
--   digest_named      the digest that is listed of a name
use Rattle.std.specs.Prelude.{◌≡◌, ℕ, ◌-◌, ◌<◌, ◌≤◌, ◌==◌, ◌||◌, ◌&&◌, ◌∷◌, Bool, not, List, [], map, length, take}
use Rattle.std.specs.Prelude.{drop, slice_index, slice_index_or, codes, Option, Some, None, Result, Ok, Err, if◌then◌else◌, bytes_eq}
use Rattle.std.specs.List.{list_any}
use Rattle.std.specs.Result.{is_ok}
use Rattle.std.specs.Str.{IsUtf8}
use Rattle.std.specs.Str.Lines.{lines}
use denote.Ref.{Bor}
use Rattle.hex.specs.Hex.{decode_sized}
use Rattle.hex.specs.declared.error.FromHexError.{FromHexError}
use Rattle.iiif_fixity.specs.declared.fault.EntryFault.{EntryFault}
use Rattle.iiif_fixity.specs.declared.fault.EntryFault.TheVariants.{Digest, Name, Twice, NoMemory}

-- a file that is listed: its name, and its digest
pub record Entry : Type 0 where
  pub name : List ℕ
  pub digest : List ℕ

-- of this name and digest
abbrev pub entry_with : List ℕ → List ℕ → Entry
entry_with name digest = record { name = name; digest = digest }

-- as they are kept
abbrev pub entry : Bor (List ℕ) × List ℕ → Entry
entry kept = entry_with kept.0.now kept.1

abbrev pub shown : List (Bor (List ℕ) × List ℕ) → List Entry
shown = map entry

-- linear white space: a space, or a tab
abbrev pub is_blank : ℕ → Bool
is_blank b = b == 32 || b == 9

-- a text behind the white space at its head
unfoldable pub behind_blanks : List ℕ → List ℕ
behind_blanks [] = []
behind_blanks (b ∷ bs) = if is_blank b then behind_blanks bs else b ∷ bs

-- behind the mark of a file that `sha256sum --binary` read, or behind the white space
abbrev pub behind_mark : List ℕ → List ℕ
behind_mark rest = if bytes_eq (take 2 rest) (codes " *") then drop 2 rest else behind_blanks rest

-- without the `./` that `find` puts before a name
abbrev pub undotted : List ℕ → List ℕ
undotted name = if bytes_eq (take 2 name) (codes "./") then drop 2 name else name

-- the name on a line, behind the 64 digits
abbrev pub name_in : List ℕ → List ℕ
name_in line = undotted (behind_mark (drop 64 line))

-- what was decoded, or nothing
abbrev pub decoded : Result (List ℕ) FromHexError → List ℕ
decoded (Ok bytes) = bytes
decoded (Err _) = []

-- the digest on a line: its first 64 bytes are the digits, in either case, of 32
abbrev pub digest_in : List ℕ → List ℕ
digest_in line = decoded (decode_sized (take 64 line) 32)

-- whether a line begins with a digest that white space follows
abbrev pub has_digest : List ℕ → Bool
has_digest line = is_blank (slice_index (drop 64 line) 0) && is_ok (decode_sized (take 64 line) 32)

-- the entry of a line
abbrev pub entry_of : List ℕ → Entry
entry_of line = entry_with (name_in line) (digest_in line)

-- whether there is an entry of a name
abbrev pub has_name : List Entry → List ℕ → Bool
has_name entries name = list_any (λ e. bytes_eq name e.name) entries

-- why there is no place for an entry of a name beside others: it is empty, or is listed
abbrev pub refusal_of_name : List Entry → List ℕ → Option EntryFault
refusal_of_name entries name = if length name == 0 then Some Name else (if has_name entries name then Some Twice else None)

-- why a line is no entry beside others
abbrev pub refusal_of_line : List Entry → List ℕ → Option EntryFault
refusal_of_line entries line = if not (has_digest line) then Some Digest else refusal_of_name entries (name_in line)

-- what speaks against something, or lack of memory
abbrev pub IsRefusal : Option EntryFault → EntryFault → Type 0
IsRefusal refusal NoMemory = Unit {0}
IsRefusal refusal fault = refusal ≡ Some fault

-- It is taken only where nothing speaks against it; a fault is what does, or lack of memory.
abbrev pub Takes : Option EntryFault → Result (Unit {0}) EntryFault → Type 0
Takes refusal (Ok _) = refusal ≡ None
Takes refusal (Err fault) = IsRefusal refusal fault

-- why line k, counted from 0, is no entry beside those of the lines above
abbrev pub refusal_at : List (List ℕ) → ℕ → Option EntryFault
refusal_at lines k = refusal_of_line (map entry_of (take k lines)) (slice_index_or lines k [])

-- nothing speaks against the first n lines
abbrev pub AreTaken : List (List ℕ) → ℕ → Type 0
AreTaken lines n = (k : ℕ) → k < n → refusal_at lines k ≡ None

-- A text ends at the first of its lines that is no entry, counted from 1.
pub record EndsAtLine (lines : List (List ℕ)) (line : ℕ) (fault : EntryFault) : Type 0 where
  pub some : 0 < line
  pub within : line ≤ length lines
  pub above : AreTaken lines (line - 1)
  pub refused : IsRefusal (refusal_at lines (line - 1)) fault

-- A text is a manifest: it is UTF-8, each line is an entry, and no name is listed twice. These are its entries, in order.
pub record IsManifest (text : List ℕ) (entries : List Entry) : Type 0 where
  pub utf8 : IsUtf8 text
  pub each : AreTaken (lines text) (length (lines text))
  pub taken : entries ≡ map entry_of (lines text)

-- the digest that is listed of a name, if there is one
unfoldable pub digest_named : List Entry → List ℕ → Option (List ℕ)
digest_named [] name = None
digest_named (e ∷ es) name = if bytes_eq name e.name then Some e.digest else digest_named es name
