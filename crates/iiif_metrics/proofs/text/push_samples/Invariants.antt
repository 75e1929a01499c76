use Rattle.std.proofs.Common.{◌≡◌, ◌++◌, string_bytes, map, take}
use Rattle.std.specs.List.{flat_map}
use Rattle.iiif_metrics.specs.Exposition.{sample_line, sample_view}
use Rattle.iiif_metrics.proofs.text.push_samples.Given as goal

abbrev pub invariant-loop-sample : goal.invariant-loop-sample
invariant-loop-sample l = string_bytes l.text ≡ string_bytes l.initial.text ++ flat_map (sample_line (l.front ++ l.name))
    (map sample_view (take l.sample-index l.samples))
