use Rattle.iiif_machine.proofs.WorkedLists.{answers_stay_at_a_stop, two_share_a_third_fault, owners_are_asked, three_are_answered}
use Rattle.iiif_machine.proofs.WorkedLists.{peer_value_is_counted, eviction_leaves_others}
use Rattle.iiif_machine.proofs.WorkedLists.{reply_of_another_key_is_not_taken, two_share_a_value, two_share_a_fault, waits_for_its_calls}
use Rattle.iiif_machine.proofs.WorkedLists.{kept_is_found, not_kept_is_not_found, failing_read, not_again, fault_is_not_kept}
use Rattle.iiif_machine.proofs.WorkedLists.{none_is_answered_yet, both_are_answered, late_repeat_changes_nothing, both_stay_answered}
use Rattle.iiif_machine.proofs.WorkedLists.{lost_ask_is_answered, fault_of_a_peer_is_not_answered, stopped_node}
use Rattle.iiif_machine.proofs.WorkedLists.{reply_to_a_stopped_flight_changes_nothing, stopped_calls_are_gone, found_again_is_answered}
use Rattle.iiif_machine.proofs.WorkedLists.{found_again_is_counted, halved_is, deep_halved_is, enlarged_is, cut_out_is}
use Rattle.iiif_machine.proofs.WorkedLists.{first_fault_is_answered, deep_ask_is_not_served, deep_ask_is_answered, ask_is_served}
use Rattle.iiif_machine.proofs.WorkedLists.{deep_is_not_wanted, seven_is_wanted, nine_are_not_kept, tenth_is_kept, evicted_from_both}
use Rattle.iiif_machine.proofs.WorkedLists.{early_fault_is_answered, late_fault_waits, uncertain_fault_waits, first_fault_is_certain}
use Rattle.iiif_machine.proofs.WorkedLists.{early_answer_stays, early_parts_fail, late_parts_wait, early_halved_is}
use Rattle.iiif_machine.proofs.WorkedLists.{early_first_fault_is_answered}
use Rattle.iiif_machine.proofs.laws.worked_lists_compute.Goals as goal

pub returns-clause-waits_for_its_calls : goal.returns-clause-waits_for_its_calls
returns-clause-waits_for_its_calls c = waits_for_its_calls

pub returns-clause-kept_is_found : goal.returns-clause-kept_is_found
returns-clause-kept_is_found c = kept_is_found

pub returns-clause-not_kept_is_not_found : goal.returns-clause-not_kept_is_not_found
returns-clause-not_kept_is_not_found c = not_kept_is_not_found

pub returns-clause-failing_read : goal.returns-clause-failing_read
returns-clause-failing_read c = failing_read

pub returns-clause-not_again : goal.returns-clause-not_again
returns-clause-not_again c = not_again

pub returns-clause-fault_is_not_kept : goal.returns-clause-fault_is_not_kept
returns-clause-fault_is_not_kept c = fault_is_not_kept

pub returns-clause-none_is_answered_yet : goal.returns-clause-none_is_answered_yet
returns-clause-none_is_answered_yet c = none_is_answered_yet

pub returns-clause-both_are_answered : goal.returns-clause-both_are_answered
returns-clause-both_are_answered c = both_are_answered

pub returns-clause-late_repeat_changes_nothing : goal.returns-clause-late_repeat_changes_nothing
returns-clause-late_repeat_changes_nothing c = late_repeat_changes_nothing

pub returns-clause-both_stay_answered : goal.returns-clause-both_stay_answered
returns-clause-both_stay_answered c = both_stay_answered

pub returns-clause-lost_ask_is_answered : goal.returns-clause-lost_ask_is_answered
returns-clause-lost_ask_is_answered c = lost_ask_is_answered

pub returns-clause-fault_of_a_peer_is_not_answered : goal.returns-clause-fault_of_a_peer_is_not_answered
returns-clause-fault_of_a_peer_is_not_answered c = fault_of_a_peer_is_not_answered

pub returns-clause-stopped_node : goal.returns-clause-stopped_node
returns-clause-stopped_node c = stopped_node

pub returns-clause-reply_to_a_stopped_flight_changes_nothing : goal.returns-clause-reply_to_a_stopped_flight_changes_nothing
returns-clause-reply_to_a_stopped_flight_changes_nothing c = reply_to_a_stopped_flight_changes_nothing

pub returns-clause-stopped_calls_are_gone : goal.returns-clause-stopped_calls_are_gone
returns-clause-stopped_calls_are_gone c = stopped_calls_are_gone

pub returns-clause-found_again_is_answered : goal.returns-clause-found_again_is_answered
returns-clause-found_again_is_answered c = found_again_is_answered

pub returns-clause-found_again_is_counted : goal.returns-clause-found_again_is_counted
returns-clause-found_again_is_counted c = found_again_is_counted

pub returns-clause-halved_is : goal.returns-clause-halved_is
returns-clause-halved_is c = halved_is

pub returns-clause-deep_halved_is : goal.returns-clause-deep_halved_is
returns-clause-deep_halved_is c = deep_halved_is

pub returns-clause-enlarged_is : goal.returns-clause-enlarged_is
returns-clause-enlarged_is c = enlarged_is

pub returns-clause-cut_out_is : goal.returns-clause-cut_out_is
returns-clause-cut_out_is c = cut_out_is

pub returns-clause-first_fault_is_answered : goal.returns-clause-first_fault_is_answered
returns-clause-first_fault_is_answered c = first_fault_is_answered

pub returns-clause-two_share_a_value : goal.returns-clause-two_share_a_value
returns-clause-two_share_a_value c = two_share_a_value

pub returns-clause-two_share_a_fault : goal.returns-clause-two_share_a_fault
returns-clause-two_share_a_fault c = two_share_a_fault

pub returns-clause-reply_of_another_key_is_not_taken : goal.returns-clause-reply_of_another_key_is_not_taken
returns-clause-reply_of_another_key_is_not_taken c = reply_of_another_key_is_not_taken

pub returns-clause-deep_ask_is_not_served : goal.returns-clause-deep_ask_is_not_served
returns-clause-deep_ask_is_not_served c = deep_ask_is_not_served

pub returns-clause-deep_ask_is_answered : goal.returns-clause-deep_ask_is_answered
returns-clause-deep_ask_is_answered c = deep_ask_is_answered

pub returns-clause-ask_is_served : goal.returns-clause-ask_is_served
returns-clause-ask_is_served c = ask_is_served

pub returns-clause-deep_is_not_wanted : goal.returns-clause-deep_is_not_wanted
returns-clause-deep_is_not_wanted c = deep_is_not_wanted

pub returns-clause-seven_is_wanted : goal.returns-clause-seven_is_wanted
returns-clause-seven_is_wanted c = seven_is_wanted

pub returns-clause-nine_are_not_kept : goal.returns-clause-nine_are_not_kept
returns-clause-nine_are_not_kept c = nine_are_not_kept

pub returns-clause-tenth_is_kept : goal.returns-clause-tenth_is_kept
returns-clause-tenth_is_kept c = tenth_is_kept

pub returns-clause-evicted_from_both : goal.returns-clause-evicted_from_both
returns-clause-evicted_from_both c = evicted_from_both

pub returns-clause-answers_stay_at_a_stop : goal.returns-clause-answers_stay_at_a_stop
returns-clause-answers_stay_at_a_stop c = answers_stay_at_a_stop

pub returns-clause-two_share_a_third_fault : goal.returns-clause-two_share_a_third_fault
returns-clause-two_share_a_third_fault c = two_share_a_third_fault

pub returns-clause-owners_are_asked : goal.returns-clause-owners_are_asked
returns-clause-owners_are_asked c = owners_are_asked

pub returns-clause-three_are_answered : goal.returns-clause-three_are_answered
returns-clause-three_are_answered c = three_are_answered

pub returns-clause-peer_value_is_counted : goal.returns-clause-peer_value_is_counted
returns-clause-peer_value_is_counted c = peer_value_is_counted

pub returns-clause-eviction_leaves_others : goal.returns-clause-eviction_leaves_others
returns-clause-eviction_leaves_others c = eviction_leaves_others

pub returns-clause-early_fault_is_answered : goal.returns-clause-early_fault_is_answered
returns-clause-early_fault_is_answered c = early_fault_is_answered

pub returns-clause-late_fault_waits : goal.returns-clause-late_fault_waits
returns-clause-late_fault_waits c = late_fault_waits

pub returns-clause-uncertain_fault_waits : goal.returns-clause-uncertain_fault_waits
returns-clause-uncertain_fault_waits c = uncertain_fault_waits

pub returns-clause-first_fault_is_certain : goal.returns-clause-first_fault_is_certain
returns-clause-first_fault_is_certain c = first_fault_is_certain

pub returns-clause-early_answer_stays : goal.returns-clause-early_answer_stays
returns-clause-early_answer_stays c = early_answer_stays

pub returns-clause-early_parts_fail : goal.returns-clause-early_parts_fail
returns-clause-early_parts_fail c = early_parts_fail

pub returns-clause-late_parts_wait : goal.returns-clause-late_parts_wait
returns-clause-late_parts_wait c = late_parts_wait

pub returns-clause-early_halved_is : goal.returns-clause-early_halved_is
returns-clause-early_halved_is c = early_halved_is

pub returns-clause-early_first_fault_is_answered : goal.returns-clause-early_first_fault_is_answered
returns-clause-early_first_fault_is_answered c = early_first_fault_is_answered
