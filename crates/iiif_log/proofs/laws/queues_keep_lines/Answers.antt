use Rattle.iiif_log.proofs.QueueLemmas.{put_keeps, take_keeps}
use Rattle.iiif_log.proofs.laws.queues_keep_lines.Goals as goal

pub returns : goal.returns
returns c = (put_keeps, λ puts taken w l e k. take_keeps puts taken w.lines w.lost w.is_open l e k)
