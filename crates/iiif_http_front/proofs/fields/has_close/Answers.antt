use Rattle.std.proofs.Common.{rules, tests, ◌==◌, ℕ, List, codes}
use Rattle.std.proofs.lemmas.Iterator.Search.{any_from_yields_List}
use Rattle.std.proofs.lemmas.Iterator.Splits.{YieldsList-from_slice_split}
use Rattle.httparse.specs.Grammar.{trim_ows}
use Rattle.iiif_http_front.specs.RequestHeads.{is_same_word}
use Rattle.iiif_http_front.proofs.fields.has_close.Goals as goal

pub returns : goal.returns
returns c =
    any_from_yields_List (λ (w : List ℕ). is_same_word (trim_ows w) (codes "close")) _ _ _ c.any.ensures.ran
    (YieldsList-from_slice_split _ (λ (b : ℕ). b == 44) _ c.split.ensures.rest c.split.ensures.done c.split.ensures.closure
    (λ x b q k. search (rules, tests)))
    (λ x b q k. search (rules, tests))
