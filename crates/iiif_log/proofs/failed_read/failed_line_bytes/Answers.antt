use Rattle.std.proofs.Common.{append_assoc}
use Rattle.iiif_log.proofs.failed_read.failed_line_bytes.Goals as goal

pub returns : goal.returns
returns c =
    let moment = c.in_ok-push_moment.ensures in (
      moment.0,
      moment.2,
      rw (
        c.into_bytes.ensures.value,
        c.in_ok-push_str-2.ensures.bytes,
        c.in_ok-push_escaped-2.ensures,
        c.in_ok-write.ensures.bytes,
        c.in_ok-push_escaped.ensures,
        c.in_ok-push_str.ensures.bytes,
        moment.1,
        c.in_ok-text.ensures.bytes,
      ) (simp append_assoc),
    )
