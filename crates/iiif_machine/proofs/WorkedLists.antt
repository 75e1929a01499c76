-- Worked lists of events compute.
use Rattle.std.proofs.Common.{ℕ, refl}
use Rattle.iiif_pixel.specs.Picture.{samples_of, row_of, sample_at}
use Rattle.iiif_pixel.specs.Operations.{crop_at}
use Rattle.iiif_pixel.specs.Scaling.{sum_from, overlap, weight_of, area_sum, scaled_at}
use Rattle.iiif_area.specs.Grid.{sum_at, has_place, part_sum}
use Rattle.iiif_canonical.specs.Resolution.{quarters_of, resolved_of}
use Rattle.iiif_canonical.specs.Regions.{region_of, clipped}
use Rattle.iiif_canonical.specs.Sizes.{fit, largest, asked_of, checked, size_of}
use Rattle.iiif_canonical.specs.Rounding.{round}
use Rattle.iiif_keys.specs.Bytes.{tile_key_bytes, sum_key_bytes, tile_val_bytes, sum_val_bytes}
use Rattle.iiif_planner.specs.Items.{row_from, rows_from, greatest}
use Rattle.iiif_tables.specs.Cache.{touch, without, placed, evict, evict_at_most, put}
use Rattle.iiif_tables.specs.Flights as tables
use Rattle.iiif_machine.specs.Keys.{name_of, rank_of, key_eq, is_tile, key_bytes, value_bytes, meaning, parts_of, derived}
use Rattle.iiif_machine.specs.Plans.{resolved, items}
use Rattle.iiif_machine.specs.Images.{assembled}
use Rattle.iiif_machine.specs.Owners.{owner}
use Rattle.iiif_machine.specs.Tables.{enter, again, land, evicted, emptied}
use Rattle.iiif_machine.specs.Worlds.{owner_of, version_at}
use Rattle.iiif_machine.specs.Steps.{step, run}
use Rattle.iiif_machine.specs.Worked.{ReplyOfAnotherKeyIsNotTaken, TwoShareAValue, TwoShareAFault, WaitsForItsCalls, KeptIsFound}
use Rattle.iiif_machine.specs.Worked.{NotKeptIsNotFound, FailingRead, NotAgain, FaultIsNotKept, NoneIsAnsweredYet, BothAreAnswered}
use Rattle.iiif_machine.specs.Worked.{LateRepeatChangesNothing, BothStayAnswered, LostAskIsAnswered, FaultOfAPeerIsNotAnswered}
use Rattle.iiif_machine.specs.Worked.{StoppedNode, ReplyToAStoppedFlightChangesNothing, StoppedCallsAreGone, FoundAgainIsAnswered}
use Rattle.iiif_machine.specs.Worked.{FoundAgainIsCounted, HalvedIs, DeepHalvedIs, EnlargedIs, CutOutIs, FirstFaultIsAnswered}
use Rattle.iiif_machine.specs.Worked.{DeepAskIsNotServed, DeepAskIsAnswered, AskIsServed, DeepIsNotWanted, SevenIsWanted, NineAreNotKept}
use Rattle.iiif_machine.specs.Worked.{TenthIsKept, EvictedFromBoth, AnswersStayAtAStop, TwoShareAThirdFault, OwnersAreAsked}
use Rattle.iiif_machine.specs.Worked.{ThreeAreAnswered}
use Rattle.iiif_machine.specs.Worked.{PeerValueIsCounted, EvictionLeavesOthers, EarlyFaultIsAnswered, LateFaultWaits, UncertainFaultWaits}
use Rattle.iiif_machine.specs.Worked.{FirstFaultIsCertain, EarlyAnswerStays, EarlyPartsFail, LatePartsWait, EarlyHalvedIs}
use Rattle.iiif_machine.specs.Worked.{EarlyFirstFaultIsAnswered}

abbrev everything : ℕ
unfolding step run emptied evicted name_of rank_of key_eq is_tile meaning parts_of derived resolved items assembled owner_of version_at
    owner key_bytes value_bytes enter again land tables.enter tables.again tables.land touch without placed evict evict_at_most put
    resolved_of region_of clipped size_of checked asked_of largest fit round quarters_of row_from rows_from greatest crop_at sample_at
    samples_of row_of tile_key_bytes sum_key_bytes tile_val_bytes sum_val_bytes sum_from overlap weight_of area_sum scaled_at sum_at
    has_place part_sum
everything = 0

pub waits_for_its_calls : WaitsForItsCalls
unfolding everything
waits_for_its_calls = refl

pub kept_is_found : KeptIsFound
unfolding everything
kept_is_found = refl

pub not_kept_is_not_found : NotKeptIsNotFound
unfolding everything
not_kept_is_not_found = refl

pub failing_read : FailingRead
unfolding everything
failing_read = refl

pub not_again : NotAgain
unfolding everything
not_again = refl

pub fault_is_not_kept : FaultIsNotKept
unfolding everything
fault_is_not_kept = refl

pub none_is_answered_yet : NoneIsAnsweredYet
unfolding everything
none_is_answered_yet = refl

pub both_are_answered : BothAreAnswered
unfolding everything
both_are_answered = refl

pub late_repeat_changes_nothing : LateRepeatChangesNothing
unfolding everything
late_repeat_changes_nothing = refl

pub both_stay_answered : BothStayAnswered
unfolding everything
both_stay_answered = refl

pub lost_ask_is_answered : LostAskIsAnswered
unfolding everything
lost_ask_is_answered = refl

pub fault_of_a_peer_is_not_answered : FaultOfAPeerIsNotAnswered
unfolding everything
fault_of_a_peer_is_not_answered = refl

pub stopped_node : StoppedNode
unfolding everything
stopped_node = refl

pub reply_to_a_stopped_flight_changes_nothing : ReplyToAStoppedFlightChangesNothing
unfolding everything
reply_to_a_stopped_flight_changes_nothing = refl

pub stopped_calls_are_gone : StoppedCallsAreGone
unfolding everything
stopped_calls_are_gone = refl

pub found_again_is_answered : FoundAgainIsAnswered
unfolding everything
found_again_is_answered = refl

pub found_again_is_counted : FoundAgainIsCounted
unfolding everything
found_again_is_counted = refl

pub halved_is : HalvedIs
unfolding everything
halved_is = refl

pub deep_halved_is : DeepHalvedIs
unfolding everything
deep_halved_is = refl

pub enlarged_is : EnlargedIs
unfolding everything
enlarged_is = refl

pub cut_out_is : CutOutIs
unfolding everything
cut_out_is = refl

pub first_fault_is_answered : FirstFaultIsAnswered
unfolding everything
first_fault_is_answered = refl

pub two_share_a_value : TwoShareAValue
unfolding everything
two_share_a_value = refl

pub two_share_a_fault : TwoShareAFault
unfolding everything
two_share_a_fault = refl

pub reply_of_another_key_is_not_taken : ReplyOfAnotherKeyIsNotTaken
unfolding everything
reply_of_another_key_is_not_taken = refl

pub deep_ask_is_not_served : DeepAskIsNotServed
unfolding everything
deep_ask_is_not_served = refl

pub deep_ask_is_answered : DeepAskIsAnswered
unfolding everything
deep_ask_is_answered = refl

pub ask_is_served : AskIsServed
unfolding everything
ask_is_served = refl

pub deep_is_not_wanted : DeepIsNotWanted
unfolding everything
deep_is_not_wanted = refl

pub seven_is_wanted : SevenIsWanted
unfolding everything
seven_is_wanted = refl

pub nine_are_not_kept : NineAreNotKept
unfolding everything
nine_are_not_kept = refl

pub tenth_is_kept : TenthIsKept
unfolding everything
tenth_is_kept = refl

pub answers_stay_at_a_stop : AnswersStayAtAStop
unfolding everything
answers_stay_at_a_stop = refl

pub two_share_a_third_fault : TwoShareAThirdFault
unfolding everything
two_share_a_third_fault = refl

pub owners_are_asked : OwnersAreAsked
unfolding everything
owners_are_asked = refl

pub three_are_answered : ThreeAreAnswered
unfolding everything
three_are_answered = refl

pub peer_value_is_counted : PeerValueIsCounted
unfolding everything
peer_value_is_counted = refl

pub eviction_leaves_others : EvictionLeavesOthers
unfolding everything
eviction_leaves_others = refl

pub evicted_from_both : EvictedFromBoth
unfolding everything
evicted_from_both = (refl, refl)

pub early_fault_is_answered : EarlyFaultIsAnswered
unfolding everything
early_fault_is_answered = refl

pub late_fault_waits : LateFaultWaits
unfolding everything
late_fault_waits = refl

pub uncertain_fault_waits : UncertainFaultWaits
unfolding everything
uncertain_fault_waits = refl

pub first_fault_is_certain : FirstFaultIsCertain
unfolding everything
first_fault_is_certain = refl

pub early_answer_stays : EarlyAnswerStays
unfolding everything
early_answer_stays = refl

pub early_parts_fail : EarlyPartsFail
unfolding everything
early_parts_fail = refl

pub late_parts_wait : LatePartsWait
unfolding everything
late_parts_wait = refl

pub early_halved_is : EarlyHalvedIs
unfolding everything
early_halved_is = refl

pub early_first_fault_is_answered : EarlyFirstFaultIsAnswered
unfolding everything
early_first_fault_is_answered = refl
