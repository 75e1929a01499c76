use Rattle.std.proofs.lemmas.Option.{none-some}
use Rattle.iiif_request.proofs.TargetLemmas.{asked_of_complete}
use Rattle.iiif_examples.proofs.Computing.{words}
use Rattle.iiif_examples.proofs.words.other_targets_ask_for_nothing.Goals as goal

pub returns-clause-prefix : goal.returns-clause-prefix
unfolding words
returns-clause-prefix c = λ r h. none-some r (asked_of_complete _ _ r h)

pub returns-clause-empty : goal.returns-clause-empty
unfolding words
returns-clause-empty c = λ r h. none-some r (asked_of_complete _ _ r h)

pub returns-clause-three : goal.returns-clause-three
unfolding words
returns-clause-three c = λ r h. none-some r (asked_of_complete _ _ r h)

pub returns-clause-escape : goal.returns-clause-escape
unfolding words
returns-clause-escape c = λ r h. none-some r (asked_of_complete _ _ r h)

pub returns-clause-byte : goal.returns-clause-byte
unfolding words
returns-clause-byte c = λ r h. none-some r (asked_of_complete _ _ r h)
