use Rattle.std.proofs.lemmas.Option.{slice_get-get_or}
use Rattle.iiif_event_list.proofs.Listed.{one_name_more}
use Rattle.iiif_event_list.proofs.describing.names.Goals as goal

pub loop-word-preserved : goal.loop-word-preserved
loop-word-preserved c =
    one_name_more c.args.words.now c.loop-word.word-index _ _ _ _
    (slice_get-get_or c.args.words.now c.loop-word.word-index _ c.loop-word-test.true)
    c.loop-word.invariant c.in_ok-decode.ensures.read c.in_ok-push.ensures
