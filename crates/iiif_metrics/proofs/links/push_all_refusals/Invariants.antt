use Rattle.std.proofs.Common.{◌≡◌, ◌++◌, take}
use Rattle.std.specs.List.{flat_map}
use Rattle.iiif_metrics.specs.Links.{refusals_of_link}
use Rattle.iiif_metrics.proofs.links.push_all_refusals.Given as goal

abbrev pub invariant-loop-link : goal.invariant-loop-link
invariant-loop-link l = l.text.items ≡ l.initial.text.items ++ flat_map refusals_of_link (take l.link-index l.links)
