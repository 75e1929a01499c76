use Rattle.std.proofs.Common.{arith, ap, sym}
use Rattle.std.specs.Str.Parse.{digits_value_after}
use Rattle.iiif_request.proofs.NumeralLemmas.{is_numeral_nine, is_numeral_both, is_numeral_digits, is_numeral_length, digits_value_joined}
use Rattle.iiif_request.proofs.NumeralLemmas.{pointed_of_some}
use Rattle.iiif_request.proofs.numerals.parse_pointed.Goals as goal

pub read_on-requires-clause-digits : goal.read_on-requires-clause-digits
read_on-requires-clause-digits c = is_numeral_digits 9 _ (sym c.if-not-is_numeral.ensures)

pub read_on-requires-clause-fits : goal.read_on-requires-clause-fits
read_on-requires-clause-fits c = omega (arith, is_numeral_nine c.args.whole.now (sym c.if-not-is_numeral.ensures))

pub read_on-requires-2-clause-digits : goal.read_on-requires-2-clause-digits
read_on-requires-2-clause-digits c = is_numeral_digits 10 _ (sym c.if-not-is_numeral-2.ensures)

pub read_on-requires-2-clause-fits : goal.read_on-requires-2-clause-fits
read_on-requires-2-clause-fits c =
    let fit = is_numeral_both c.args.whole.now c.args.places.now (sym c.if-not-is_numeral.ensures) (sym c.if-not-is_numeral-2.ensures) in
    let same = ap (λ n. digits_value_after 10 n c.args.places.now) c.read_on.ensures in
    omega (arith, fit, same)

pub overflow_cast-result : goal.overflow_cast-result
overflow_cast-result c = omega (arith, is_numeral_length 10 c.args.places.now (sym c.if-not-is_numeral-2.ensures))

pub returns-clause-few : goal.returns-clause-few
returns-clause-few c = omega (arith, is_numeral_length 10 c.args.places.now (sym c.if-not-is_numeral-2.ensures))

pub returns-clause-value : goal.returns-clause-value
returns-clause-value c =
    pointed_of_some _ _ _ c.if-not-is_numeral.ensures c.if-not-is_numeral-2.ensures
    (digits_value_joined c.args.whole.now c.args.places.now _ _ c.read_on.ensures c.read_on-2.ensures)
