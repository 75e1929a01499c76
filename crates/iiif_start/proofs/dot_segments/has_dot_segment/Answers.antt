use Rattle.std.proofs.Common.{rules, tests, ap, ◌∙◌, ◌==◌, ℕ, List}
use Rattle.std.specs.List.{list_any, slice_split}
use Rattle.std.proofs.lemmas.Iterator.Search.{any_from_yields_List}
use Rattle.std.proofs.lemmas.Iterator.Splits.{YieldsList-from_slice_split}
use Rattle.iiif_start.specs.DotSegments.{is_dot_segment, is_slash}
use Rattle.iiif_start.proofs.dot_segments.has_dot_segment.Goals as goal

pub returns : goal.returns
returns c =
    any_from_yields_List is_dot_segment _ _ _ c.any.ensures.ran
    (YieldsList-from_slice_split _ (λ (b : ℕ). b == 47) c.as_bytes.result.now c.split.ensures.rest c.split.ensures.done
    c.split.ensures.closure
    (λ x b q k. search (rules, tests)))
    (λ x b q k. search (rules, tests))
    ∙ ap (λ (text : List ℕ). list_any is_dot_segment (slice_split is_slash text)) (c.as_bytes.ensures.value ∙ c.path_of.ensures)
