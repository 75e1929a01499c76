use Rattle.std.proofs.Common.{◌≡◌, string_bytes, take}
use Rattle.iiif_machine.specs.Worlds.{answers}
use Rattle.iiif_world.specs.Code.{world_of}
use Rattle.iiif_event_list.specs.Texts.{answers_text}
use Rattle.iiif_event_list.proofs.replaying.answers.Given as goal

-- the lines of the requests so far
abbrev pub invariant-loop-request : goal.invariant-loop-request
invariant-loop-request l = string_bytes l.text ≡ answers_text (take l.request (answers (world_of l.world)))
