-- Rounding of fractions to whole numbers: IIIF Image API 3.0, sections 4.1 and 4.2, which leave it to the server.
--
-- `round p q`: p / q, rounded. `percent_of side n`: n percent of a side, rounded.
use Rattle.std.specs.Prelude.{ℕ, ◌+◌, ◌*◌, ◌/◌, ◌^◌}
use Rattle.iiif_request.specs.declared.request.Decimal.{Decimal}

-- section 4.2: p / q to the nearest whole number; a half goes up
unfoldable pub round : ℕ → ℕ → ℕ
round p q = (2 * p + q) / (2 * q)

-- sections 4.1 and 4.2: n hundredths of a side, n being a decimal: side * digits / (100 * 10 ^ places), rounded once
abbrev pub percent_of : ℕ → Decimal → ℕ
percent_of side n = round (side * n.digits) (100 * 10 ^ n.places)
