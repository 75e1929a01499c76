use Rattle.std.proofs.Common.{◌≡◌, ℕ, List, ◌++◌, append_assoc, codes}
use Rattle.std.specs.List.{flat_map}
use Rattle.iiif_metrics.specs.Links.{asks_of_link, head_lines, refusals_of_link, state_of_link}
use Rattle.iiif_metrics.specs.declared.text.MetricKind.TheVariants.{Counter, Gauge}
use Rattle.iiif_metrics.proofs.links.push_links.Goals as goal

joined : (old first asks second states third refusals : List ℕ) →
    (((((old ++ first) ++ asks) ++ second) ++ states) ++ third) ++ refusals
    ≡ old ++ (((((first ++ asks) ++ second) ++ states) ++ third) ++ refusals)
joined old first asks second states third refusals = simp append_assoc

pub returns : goal.returns
returns c = rw (
  c.in_ok-push_all_refusals.ensures,
  c.in_ok-push_head-3.ensures,
  c.in_ok-push_all_states.ensures,
  c.in_ok-push_head-2.ensures,
  c.in_ok-push_all_asks.ensures,
  c.in_ok-push_head.ensures,
) (joined c.args.text.now.items
    (head_lines (codes "iiif_peer_asks_total") (codes "Asks of another node by how they ended, and those that weren't made.") Counter)
    (flat_map asks_of_link c.args.links.now)
    (head_lines (codes "iiif_peer_state")
    (codes "0 where another node is asked, 1 where one ask tries it, 2 where it is left alone, 3 where it is this node.") Gauge)
    (flat_map state_of_link c.args.links.now)
    (head_lines (codes "iiif_peer_refused_images_total") (codes "Images for which another node refused asks.") Counter)
    (flat_map refusals_of_link c.args.links.now))
