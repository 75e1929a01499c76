use Rattle.std.proofs.Common.{arith, rules, tests, ◌<◌, length}
use Rattle.std.proofs.lemmas.Iterator.{YieldsList-from_slice}
use Rattle.std.proofs.lemmas.Iterator.Search.{all_from_yields_List}
use Rattle.iiif_answers.specs.BaseUrl.{is_segment}
use Rattle.iiif_canonical.specs.Escapes.{is_unreserved}
use Rattle.iiif_answers.proofs.BaseUrlLemmas.{some_pass}
use Rattle.iiif_answers.proofs.base_url.is_segment.Goals as goal

pub returns-then-text-gt0 : goal.returns-then-text-gt0
unfolding is_segment
returns-then-text-gt0 c =
    let some : 0 < length c.args.text.now = omega arith in
    some_pass is_unreserved c.args.text.now c.all.result some
    (all_from_yields_List is_unreserved _ _ _ c.all.ensures.ran (YieldsList-from_slice c.args.text.now cc)
    (λ x b q k. search (rules, tests)))
