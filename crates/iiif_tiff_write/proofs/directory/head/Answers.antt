use Rattle.std.proofs.Common.{◌∙◌, ap, refl, length}
use Rattle.iiif_tiff_write.proofs.HeadLemmas.{pieces_are}
use Rattle.iiif_tiff_write.proofs.Lengths.{length-head_of}
use Rattle.iiif_tiff_write.proofs.directory.head.Goals as goal

pub returns-clause-value : goal.returns-clause-value
returns-clause-value c =
    rw (
      c.put_outside.ensures,
      c.put_long.ensures.bytes,
      c.put_short_field-4.ensures.bytes,
      c.put_rational_field_at-2.ensures.bytes,
      c.put_rational_field_at.ensures.bytes,
      c.put_long_field-5.ensures.bytes,
      c.put_long_field-4.ensures.bytes,
      c.put_short_field-3.ensures.bytes,
      c.put_long_field-3.ensures.bytes,
      c.put_short_field-2.ensures.bytes,
      c.put_short_field.ensures.bytes,
      c.put_bits_per_sample.ensures.bytes,
      c.put_long_field-2.ensures.bytes,
      c.put_long_field.ensures.bytes,
      c.put_short.ensures.bytes,
      c.put_header.ensures.bytes,
      c.new-head.ensures,
      c.photometric.ensures,
      c.strip_offset.ensures,
      c.from-2.ensures,
      c.samples_per_pixel.ensures,
      c.row_len.ensures,
      c.from.ensures,
    ) (pieces_are c.args.kind c.args.dim)

pub returns-clause-len : goal.returns-clause-len
returns-clause-len c = ap length (returns-clause-value c) ∙ length-head_of c.args.kind c.args.dim

pub returns-clause-of_file : goal.returns-clause-of_file
returns-clause-of_file c = λ p sides. rw (returns-clause-value c, sides) refl
