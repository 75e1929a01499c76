use Rattle.iiif_request.proofs.RequestLemmas.{request_of_sound, Says_short, Says_small}
use Rattle.iiif_request.specs.Words.{texts}
use Rattle.iiif_request.proofs.parsing.parse.Goals as goal

pub returns-clause-says : goal.returns-clause-says
returns-clause-says c = request_of_sound (texts c.args.words.now) _ cc

pub returns-clause-short : goal.returns-clause-short
returns-clause-short c = Says_short (texts c.args.words.now) _ (request_of_sound (texts c.args.words.now) _ cc)

pub returns-clause-small : goal.returns-clause-small
returns-clause-small c = Says_small (texts c.args.words.now) _ (request_of_sound (texts c.args.words.now) _ cc)
