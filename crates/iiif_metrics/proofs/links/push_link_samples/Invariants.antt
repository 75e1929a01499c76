use Rattle.std.proofs.Common.{◌≡◌, ◌++◌, map, take}
use Rattle.std.specs.List.{flat_map}
use Rattle.iiif_metrics.specs.Exposition.{sample_line, sample_view}
use Rattle.iiif_metrics.specs.Links.{link_sample}
use Rattle.iiif_metrics.proofs.links.push_link_samples.Given as goal

abbrev pub invariant-loop-sample : goal.invariant-loop-sample
invariant-loop-sample l =
    l.text.items ≡ l.initial.text.items ++ flat_map (sample_line l.name)
    (map (link_sample l.peer) (map sample_view (take l.sample-index l.samples)))
