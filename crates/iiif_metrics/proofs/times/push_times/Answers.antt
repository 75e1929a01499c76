use Rattle.std.proofs.Common.{◌≡◌, ℕ, List, ◌++◌, append_assoc, codes, string_bytes}
use Rattle.iiif_metrics.specs.Exposition.{help_line, type_line}
use Rattle.iiif_metrics.specs.Times.{kind_text, times_text}
use Rattle.iiif_metrics.specs.declared.text.MetricKind.TheVariants.{Histogram}
use Rattle.iiif_metrics.proofs.times.push_times.Goals as goal

joined : (old help type image info other : List ℕ) →
    ((((old ++ help) ++ type) ++ image) ++ info) ++ other ≡ old ++ ((((help ++ type) ++ image) ++ info) ++ other)
joined old help type image info other = simp append_assoc

pub returns : goal.returns
unfolding times_text
returns c = rw (
  c.in_ok-push_kind-3.ensures,
  c.in_ok-push_kind-2.ensures,
  c.in_ok-push_kind.ensures,
  c.in_ok-push_type.ensures,
  c.in_ok-push_help.ensures,
) (joined (string_bytes c.args.text.now)
    (help_line (codes "iiif_answer_seconds") (codes "How long whole answers took, from their head to their last byte."))
    (type_line (codes "iiif_answer_seconds") Histogram)
    (kind_text (codes "image") c.args.times.now.image)
    (kind_text (codes "info") c.args.times.now.info)
    (kind_text (codes "other") c.args.times.now.other))
