use Rattle.std.proofs.Common.{◌≡◌, map, take}
use Rattle.iiif_machine.specs.Worlds.{answer_in}
use Rattle.iiif_machine.specs.declared.rows.RequestRow.{RequestRow}
use Rattle.iiif_world.proofs.contents.Contents.answers.Given as goal

-- those of the requests so far
abbrev pub invariant-loop-wanted : goal.invariant-loop-wanted
invariant-loop-wanted l = l.all.items ≡ map (λ (q : RequestRow). answer_in q.progress) (take l.wanted-index l.self.requests.items)
