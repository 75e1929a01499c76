use Rattle.std.proofs.Common.{arith, rules, ◌≡◌, Some}
use Rattle.iiif_request.specs.Numerals.{numeral_of}
use Rattle.iiif_request.proofs.NumeralLemmas.{numeral_of_small}
use Rattle.iiif_request.proofs.numerals.parse_whole.Goals as goal

pub overflow_cast-result : goal.overflow_cast-result
overflow_cast-result c =
    let is : numeral_of 9 c.args.text.now ≡ Some c.in_ok-value.value = search rules in
    omega (arith, numeral_of_small 9 c.args.text.now c.in_ok-value.value is)
