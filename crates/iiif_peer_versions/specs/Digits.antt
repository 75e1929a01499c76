-- The digits that tell the version of a file.
use Prim.Native.Nat.{zero, suc}
use Rattle.std.specs.Prelude.{ℕ, ◌+◌, ◌*◌, ◌/◌, ◌%◌, ◌^◌, nat_lt, List, [], ◌∷◌, ◌++◌, if◌then◌else◌}
use Rattle.iiif_peer_versions.specs.declared.file_version.FileVersion.{FileVersion}

-- the digit of a number below 16, in ASCII
abbrev pub hex_digit : ℕ → ℕ
hex_digit number = if nat_lt number 10 then 48 + number else 87 + number

-- the last so many hexadecimal digits of a number
unfoldable pub hex_digits : ℕ → ℕ → List ℕ
hex_digits zero number = []
hex_digits (suc count) number = hex_digits count (number / 16) ++ hex_digit (number % 16) ∷ []

-- sixteen digits of the length of a file, and sixteen of the time of its last change
abbrev pub version_digits : FileVersion → List ℕ
version_digits version = hex_digits 32 (version.len * 2 ^ 64 + version.changed)

-- the most bytes of a name that has room for these digits
abbrev pub name_limit : ℕ
name_limit = 992
