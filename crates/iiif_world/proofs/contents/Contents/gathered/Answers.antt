use Rattle.std.proofs.Common.{◌≡◌, ◌∷◌, ◌<◌, ◌+◌, suc, drop, get_or, length, sym, ap, ◌∙◌, arith, drop-cons}
use Rattle.iiif_machine.specs.Worlds.{decided}
use Rattle.iiif_world.specs.Code.{world_of}
use Rattle.iiif_machine.specs.Heard.{heard_all, heard_first}
use Rattle.iiif_machine.specs.declared.hearing.Heard.{Heard}
use Rattle.iiif_world.proofs.Gathered.{one_more}
use Rattle.iiif_world.proofs.contents.Contents.gathered.Goals as goal

pub loop-call-preserved : goal.loop-call-preserved
loop-call-preserved c =
    let w = world_of c.args.self.now in
    let cs = c.args.calls.now in
    let i = c.loop-call.call-index in
    let less : i < length cs = omega arith in
    let next : suc i ≡ i + 1 = omega arith in
    let list : drop i cs ≡ get_or cs i 0 ∷ drop (i + 1) cs = drop-cons cs i 0 less ∙ ap (λ n. get_or cs i 0 ∷ drop n cs) next in
    one_more w (heard_all (decided w cs)) c.loop-call.first c.heard.result (get_or cs i 0) (drop (i + 1) cs) (drop i cs)
    c.loop-call.invariant list c.heard.ensures
    ∙ ap (λ (x : Heard). heard_first w.scene.faults_early x (heard_all (decided w (drop (i + 1) cs)))) (sym c.first_of-first.ensures)
