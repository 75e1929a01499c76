use Rattle.std.proofs.Common.{◌≡◌, ◌++◌, string_bytes, map, take}
use Rattle.std.specs.List.{flat_map}
use Rattle.iiif_metrics.specs.Times.{bucket_line, bucket_view}
use Rattle.iiif_metrics.proofs.times.push_buckets.Given as goal

abbrev pub invariant-loop-bucket : goal.invariant-loop-bucket
invariant-loop-bucket l = string_bytes l.text ≡ string_bytes l.initial.text ++ flat_map (bucket_line l.kind)
    (map bucket_view (take l.bucket-index l.buckets))
