use Rattle.iiif_machine.proofs.Giving.{only_sources_give}
use Rattle.iiif_machine.proofs.Promised.{answers_are_right, canonical_forms_agree, values_are_meanings, no_fault_no_failure}
use Rattle.iiif_machine.proofs.Promised.{refused_at_once}
use Rattle.iiif_machine.proofs.laws.sound_worlds_answer_right.Goals as goal

pub returns-clause-answers : goal.returns-clause-answers
returns-clause-answers c = answers_are_right

pub returns-clause-values : goal.returns-clause-values
returns-clause-values c = values_are_meanings

pub returns-clause-faults : goal.returns-clause-faults
returns-clause-faults c = no_fault_no_failure

pub returns-clause-canonical : goal.returns-clause-canonical
returns-clause-canonical c = canonical_forms_agree

pub returns-clause-given : goal.returns-clause-given
returns-clause-given c = only_sources_give

pub returns-clause-refused : goal.returns-clause-refused
returns-clause-refused c = refused_at_once
