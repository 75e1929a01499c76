use Rattle.std.proofs.Common.{rules, tests, ◌==◌, ℕ}
use Rattle.std.proofs.lemmas.Iterator.Search.{all_from_yields_List}
use Rattle.std.proofs.lemmas.Iterator.Splits.{YieldsList-from_slice_split}
use Rattle.std.proofs.lemmas.Iterator.Adapters.{YieldsList-from_skip}
use Rattle.iiif_request.specs.Code.{has_whole_escapes, begins_with_digits}
use Rattle.iiif_request.proofs.target.has_whole_escapes.Goals as goal

pub returns : goal.returns
unfolding has_whole_escapes
returns c =
    all_from_yields_List begins_with_digits _ _ _ c.all.ensures.ran
    (YieldsList-from_skip 1 (YieldsList-from_slice_split _ (λ (b : ℕ). b == 37) c.args.raw.now
    (cc (c.skip.ensures.source, c.split.ensures.rest)) (cc (c.skip.ensures.source, c.split.ensures.done))
    (cc (c.skip.ensures.source, c.split.ensures.closure)) (λ x b q k. search (rules, tests))) c.skip.ensures.count)
    (λ x b q k. search (rules, tests))
