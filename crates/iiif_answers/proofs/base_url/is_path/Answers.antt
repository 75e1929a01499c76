use Rattle.std.proofs.Common.{rules, tests, ◌==◌, ℕ}
use Rattle.std.proofs.lemmas.Iterator.Search.{all_from_yields_List}
use Rattle.std.proofs.lemmas.Iterator.Splits.{YieldsList-from_slice_split}
use Rattle.iiif_answers.specs.BaseUrl.{is_segment}
use Rattle.iiif_answers.proofs.base_url.is_path.Goals as goal

pub returns : goal.returns
returns c =
    all_from_yields_List is_segment _ _ _ c.all.ensures.ran
    (YieldsList-from_slice_split _ (λ (b : ℕ). b == 47) c.args.text.now c.split.ensures.rest c.split.ensures.done c.split.ensures.closure
    (λ x b q k. search (rules, tests)))
    (λ x b q k. search (rules, tests))
