use Rattle.iiif_metrics.proofs.text.cache_rows.Goals as goal

pub returns : goal.returns
returns c = λ front. rw (
  c.counter.ensures front,
  c.counter-2.ensures front,
  c.counter-3.ensures front,
  c.counter-4.ensures front,
  c.counter-5.ensures front,
  c.counter-6.ensures front,
  c.counter-7.ensures front,
  c.counter-8.ensures front,
  c.counter-9.ensures front,
  c.gauge.ensures front,
  c.gauge-2.ensures front,
)
