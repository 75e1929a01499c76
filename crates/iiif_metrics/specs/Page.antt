-- All that is told to who asks for the counters.
use Rattle.std.specs.Prelude.{ℕ, List, ◌++◌, codes}
use Rattle.iiif_metrics.specs.Exposition.{answer_family, cache_families, cut_family, families_text, family_text, held_families, image_families, open_family}
use Rattle.iiif_metrics.specs.Exposition.{ousted_family, refused_family, server_families}
use Rattle.iiif_metrics.specs.Links.{links_text, seconds_text}
use Rattle.iiif_metrics.specs.Times.{times_text}
use Rattle.iiif_metrics.specs.declared.metrics.PeerMetrics.{PeerMetrics}
use Rattle.iiif_metrics.specs.declared.metrics.Metrics.{Metrics}

abbrev pub text_of : Metrics → PeerMetrics → List ℕ
text_of m p =
    families_text (cache_families (codes "iiif_tile_cache_") m.tiles)
    ++ families_text (cache_families (codes "iiif_sum_cache_") m.sums)
    ++ families_text (image_families (codes "iiif_") m.images)
    ++ families_text (held_families (codes "iiif_held_") m.held)
    ++ family_text (open_family m.counts.open_now)
    ++ family_text (refused_family m.counts.refused)
    ++ family_text (ousted_family m.counts.ousted)
    ++ family_text (cut_family m.counts.cut)
    ++ families_text (server_families (codes "iiif_") m)
    ++ family_text (answer_family m.counts.whole)
    ++ times_text m.times
    ++ seconds_text p.durations
    ++ links_text p.links.items
