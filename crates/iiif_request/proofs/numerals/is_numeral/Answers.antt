use Rattle.std.proofs.Common.{arith, rules, tests}
use Rattle.std.specs.Char.{is_ascii_digit}
use Rattle.std.proofs.lemmas.Iterator.{YieldsList-from_slice}
use Rattle.std.proofs.lemmas.Iterator.Search.{all_from_yields_List}
use Rattle.iiif_request.proofs.NumeralLemmas.{is_numeral_by_tests}
use Rattle.iiif_request.proofs.numerals.is_numeral.Goals as goal

pub returns-then-text-most : goal.returns-then-text-most
returns-then-text-most c =
    is_numeral_by_tests _ _ _ (omega arith) (omega arith)
    (all_from_yields_List is_ascii_digit _ _ _ c.all.ensures.ran (YieldsList-from_slice c.args.text.now cc)
    (λ x b q k. search (rules, tests)))
