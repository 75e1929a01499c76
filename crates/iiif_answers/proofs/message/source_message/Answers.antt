use Rattle.iiif_answers.proofs.message.source_message.Goals as goal

pub returns : goal.returns
returns c = rw c.in_ok-body.ensures at c.make_message.ensures
