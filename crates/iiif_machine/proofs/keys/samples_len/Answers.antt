use Rattle.std.proofs.Common.{◌∙◌, length, ap, sym}
use Rattle.iiif_pixel.specs.Geometry.{top_of}
use Rattle.iiif_pixel.specs.Depths.{span_depth, span_values}
use Rattle.iiif_pixel.specs.declared.depths.Span.{Span}
use Rattle.iiif_keys.specs.Bytes.{samples_bytes}
use Rattle.iiif_keys.proofs.ValueBytes.{length-shorts}
use Rattle.iiif_machine.proofs.keys.samples_len.Goals as goal

pub returns-in-Sixteen-clause-len : goal.returns-in-Sixteen-clause-len
returns-in-Sixteen-clause-len c =
    sym (ap (λ (s : Span). length (samples_bytes (top_of (span_depth s)) (span_values s))) c.in-Sixteen.is ∙
    length-shorts c.in-Sixteen.samples.now)
