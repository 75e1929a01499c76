use Rattle.std.proofs.Common.{codes}
use Rattle.iiif_metrics.proofs.text.metrics_text.Goals as goal

pub returns : goal.returns
returns c = rw (
  c.in_ok-push_links.ensures,
  c.as_slice.ensures.value,
  c.into_bytes-text.ensures.value,
  c.in_ok-push_seconds.ensures,
  c.in_ok-push_times.ensures,
  c.in_ok-push_answers.ensures,
  c.in_ok-push_rows-5.ensures,
  c.server_rows.ensures (codes "iiif_"),
  c.in_ok-push_cut.ensures,
  c.in_ok-push_ousted.ensures,
  c.in_ok-push_refused.ensures,
  c.in_ok-push_open.ensures,
  c.in_ok-push_rows-4.ensures,
  c.held_rows.ensures (codes "iiif_held_"),
  c.in_ok-push_rows-3.ensures,
  c.image_rows.ensures (codes "iiif_"),
  c.in_ok-push_rows-2.ensures,
  c.cache_rows-2.ensures (codes "iiif_sum_cache_"),
  c.in_ok-push_rows.ensures,
  c.cache_rows.ensures (codes "iiif_tile_cache_"),
  c.in_ok-text.ensures.bytes,
)
