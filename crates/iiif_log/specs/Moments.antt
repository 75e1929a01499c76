-- Instants as text: RFC 3339, section 5.6.
use Rattle.std.specs.Prelude.{◌≡◌, ℕ, ◌/◌, ◌%◌, ◌*◌, List, [], ◌∷◌, ◌++◌, decimal, pos}
use Rattle.jiff.specs.Names.{iso_datetime_text}
use Rattle.jiff_core.specs.DateTime.{civil_nanos}
use Rattle.jiff_core.specs.declared.civil.datetime.DateTime.{DateTime}

-- a number below 1,000 in three digits
abbrev pub three_digits : ℕ → List ℕ
three_digits n = decimal (n / 100) ++ decimal (n / 10 % 10) ++ decimal (n % 10)

-- The instant of UTC that lies so many milliseconds behind the beginning of 1970: the date and the time of day of its second, as
-- the calendar has them, three places of the second, and Z.
abbrev pub IsMomentText : ℕ → List ℕ → Type 0
IsMomentText millis text =
    (second : DateTime) × (civil_nanos second ≡ pos (millis / 1000 * 1_000_000_000))
    × (text ≡ iso_datetime_text second ++ 46 ∷ three_digits (millis % 1000) ++ 90 ∷ [])
