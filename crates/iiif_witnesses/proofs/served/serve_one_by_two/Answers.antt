use Rattle.iiif_witnesses.proofs.ServedLemmas.{gives_shown}
use Rattle.iiif_witnesses.proofs.served.serve_one_by_two.Goals as goal

pub returns-in-Ok-serve_pair-clause-shown : goal.returns-in-Ok-serve_pair-clause-shown
returns-in-Ok-serve_pair-clause-shown g c =
    gives_shown c.args.config c.args.image.now.name.now c.args.image.now.file.now c.args.call.now
