use Rattle.std.proofs.Common.{length}
use Rattle.iiif_answers.proofs.PlainLemmas.{fields_plain, status_stands}
use Rattle.iiif_answers.proofs.laws.heads_read_back.Goals as goal

pub returns : goal.returns
returns g c settings a close legal framed small =
    c.written_head_reads_back.ensures a.status a.fields (length a.body) close (status_stands g.row.S.Denot settings a framed)
    (fields_plain g.row.S.Denot settings a legal framed) small
