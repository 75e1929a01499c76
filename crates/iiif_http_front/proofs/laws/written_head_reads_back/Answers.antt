use Rattle.iiif_http_front.proofs.ReadBackLemmas.{reads_back}
use Rattle.iiif_http_front.proofs.laws.written_head_reads_back.Goals as goal

pub returns : goal.returns
returns c = reads_back
