use Rattle.std.proofs.Common.{arith, rules, tests, ◌<◌, length}
use Rattle.std.proofs.lemmas.Iterator.{YieldsList-from_slice}
use Rattle.std.proofs.lemmas.Iterator.Search.{all_from_yields_List}
use Rattle.iiif_answers.specs.BaseUrl.{is_host, is_host_byte}
use Rattle.iiif_answers.proofs.BaseUrlLemmas.{some_pass}
use Rattle.iiif_answers.proofs.base_url.is_host.Goals as goal

pub returns-then-text-gt0 : goal.returns-then-text-gt0
unfolding is_host
returns-then-text-gt0 c =
    let some : 0 < length c.args.text.now = omega arith in
    some_pass is_host_byte c.args.text.now c.all.result some
    (all_from_yields_List is_host_byte _ _ _ c.all.ensures.ran (YieldsList-from_slice c.args.text.now cc)
    (λ x b q k. search (rules, tests)))
