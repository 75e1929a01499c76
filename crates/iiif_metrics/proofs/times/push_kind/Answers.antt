use Rattle.std.proofs.Common.{◌≡◌, ℕ, List, ◌++◌, append_assoc, string_bytes}
use Rattle.std.specs.List.{flat_map}
use Rattle.iiif_metrics.specs.Times.{bucket_line, buckets_of, count_line, sum_line}
use Rattle.iiif_metrics.proofs.times.push_kind.Goals as goal

joined : (old buckets sum count : List ℕ) → ((old ++ buckets) ++ sum) ++ count ≡ old ++ ((buckets ++ sum) ++ count)
joined old buckets sum count = simp append_assoc

pub returns : goal.returns
returns c = rw (c.in_ok-push_count.ensures, c.in_ok-push_sum.ensures, c.in_ok-push_buckets.ensures, c.buckets_in.ensures)
    (joined (string_bytes c.args.text.now) (flat_map (bucket_line c.args.kind.now) (buckets_of c.args.durations.now))
    (sum_line c.args.kind.now c.args.durations.now.micros) (count_line c.args.kind.now c.args.durations.now.all))
