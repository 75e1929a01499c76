use Rattle.std.proofs.Common.{rules}
use Rattle.iiif_request.proofs.TargetLemmas.{split_found, split_refused}
use Rattle.iiif_request.proofs.target.split.Goals as goal

pub returns-clause-target : goal.returns-clause-target
returns-clause-target c = split_found c.args.prefix.now c.args.target.now _ (search rules)

pub returns-clause-path : goal.returns-clause-path
returns-clause-path c = split_refused c.args.prefix.now c.args.target.now _ (search rules)
