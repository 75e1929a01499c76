use Rattle.std.proofs.Common.{arith, rules, ◌≡◌, true}
use Rattle.iiif_request.specs.Numerals.{is_numeral}
use Rattle.iiif_request.proofs.NumeralLemmas.{is_numeral_fits, is_numeral_digits}
use Rattle.iiif_request.proofs.numerals.numeral.Goals as goal

pub read_on-requires-clause-digits : goal.read_on-requires-clause-digits
read_on-requires-clause-digits c =
    let h : is_numeral c.args.most c.args.text.now ≡ true = search rules in
    is_numeral_digits c.args.most _ h

pub read_on-requires-clause-fits : goal.read_on-requires-clause-fits
read_on-requires-clause-fits c =
    let h : is_numeral c.args.most c.args.text.now ≡ true = search rules in
    omega (arith, is_numeral_fits c.args.most c.args.text.now c.requires h)
