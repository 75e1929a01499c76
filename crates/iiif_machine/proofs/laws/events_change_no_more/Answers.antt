use Rattle.iiif_machine.proofs.Leaving.{evict_takes_entries, knows_at_its_end, stop_takes_its_own}
use Rattle.iiif_machine.proofs.EventLaws.{first_fault_counts, no_fault_is_taken, not_kept_stays, stop_takes_all}
use Rattle.iiif_machine.proofs.laws.events_change_no_more.Goals as goal

pub returns-clause-first : goal.returns-clause-first
returns-clause-first c = first_fault_counts

pub returns-clause-taken : goal.returns-clause-taken
returns-clause-taken c = no_fault_is_taken

pub returns-clause-not_kept : goal.returns-clause-not_kept
returns-clause-not_kept c = not_kept_stays

pub returns-clause-stopped : goal.returns-clause-stopped
returns-clause-stopped c = stop_takes_all

pub returns-clause-others : goal.returns-clause-others
returns-clause-others c = stop_takes_its_own

pub returns-clause-known : goal.returns-clause-known
returns-clause-known c = knows_at_its_end

pub returns-clause-evicted : goal.returns-clause-evicted
returns-clause-evicted c = evict_takes_entries
