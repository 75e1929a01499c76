use Rattle.std.proofs.Common.{◌≡◌, ℕ, List, [], ◌++◌, append_assoc, codes, string_bytes}
use Rattle.std.specs.List.{flat_map}
use Rattle.iiif_metrics.specs.Exposition.{help_line, sample_line, type_line}
use Rattle.iiif_metrics.specs.Links.{bucket_samples, sum_line}
use Rattle.iiif_metrics.specs.declared.text.MetricKind.TheVariants.{Histogram}
use Rattle.iiif_metrics.proofs.links.push_seconds.Goals as goal

joined : (old help type samples sum count : List ℕ) →
    ((((old ++ help) ++ type) ++ samples) ++ sum) ++ count ≡ old ++ ((((help ++ type) ++ samples) ++ sum) ++ count)
joined old help type samples sum count = simp append_assoc

pub returns : goal.returns
returns c = rw (
  c.in_ok-push_sample.ensures,
  c.in_ok-push_sum.ensures,
  c.in_ok-push_samples.ensures,
  c.bucket_samples_of-samples.ensures,
  c.in_ok-push_type.ensures,
  c.in_ok-push_help.ensures,
) (joined (string_bytes c.args.text.now) (help_line (codes "iiif_peer_ask_seconds") (codes "How long asks of other nodes took."))
    (type_line (codes "iiif_peer_ask_seconds") Histogram)
    (flat_map (sample_line (codes "iiif_peer_ask_seconds_bucket")) (bucket_samples c.args.durations.now.within c.args.durations.now.all))
    (sum_line c.args.durations.now.micros) (sample_line (codes "iiif_peer_ask_seconds_count") ([], c.args.durations.now.all)))
