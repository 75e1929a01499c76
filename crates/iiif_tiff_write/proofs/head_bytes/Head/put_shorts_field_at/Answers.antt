use Rattle.std.proofs.Common.{refl, append_assoc}
use Rattle.iiif_tiff_write.proofs.head_bytes.Head.put_shorts_field_at.Goals as goal

pub returns-clause-bytes : goal.returns-clause-bytes
returns-clause-bytes c = rw (c.put_long.ensures.bytes, c.put_entry.ensures.bytes) (simp append_assoc refl)
