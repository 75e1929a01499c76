use Rattle.iiif_event_list.proofs.Words.{words_from}
use Rattle.iiif_event_list.proofs.replaying.words_of.Goals as goal

pub returns : goal.returns
returns c =
    let ran = c.in_ok-collect.ensures.ran in
    let ends = ran.1.2 tt in
    words_from c.args.line.now ran.0 c.in_ok-collect.field-0.items c.split_whitespace.result ran.1.0 ends.0 ran.1.1 ends.1
    c.split_whitespace.ensures.rest ran.2.0
