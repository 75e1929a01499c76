use Rattle.std.proofs.Common.{◌<◌, length, sym, ap, subst, ◌∙◌, arith}
use Rattle.std.specs.Prelude.{slice_get}
use Rattle.std.proofs.lemmas.Option.{slice_get_within}
use Rattle.iiif_machine.specs.Scenes.{IsProper}
use Rattle.iiif_machine.specs.Sound.{IsHonestWorld}
use Rattle.iiif_machine.specs.Worlds.{World, with_state}
use Rattle.iiif_machine.specs.declared.rows.CallState.TheVariants.{Fresh, Hit}
use Rattle.iiif_machine.proofs.Apart.{set_there}
use Rattle.iiif_world.specs.Code.{world_of}
use Rattle.iiif_world.specs.Entering.{HasCall}
use Rattle.iiif_world.proofs.Changed.{length_set}
use Rattle.iiif_world.proofs.Found.{found_honest, state_back}
use Rattle.iiif_world.proofs.Stepped.{find_done}
use Rattle.iiif_world.proofs.contents.Contents.find.Goals as goal

pub settle_entered-requires-clause-proper : goal.settle_entered-requires-clause-proper
settle_entered-requires-clause-proper c =
    let mid = c.set_state.ensures c.requires.fresh.who Fresh c.requires.fresh.call in
    subst (λ (z : World). IsProper z.scene) (sym mid) c.requires.sound.proper

pub settle_entered-requires-clause-honest : goal.settle_entered-requires-clause-honest
settle_entered-requires-clause-honest c =
    let mid = c.set_state.ensures c.requires.fresh.who Fresh c.requires.fresh.call in
    subst IsHonestWorld (sym mid)
    (found_honest (world_of c.args.self.now) c.args.call c.requires.fresh.who c.requires.fresh.node _ c.requires.sound.sound.honest
    c.requires.fresh.call c.requires.fresh.there c.requires.fresh.is_kept)

pub settle_entered-requires-clause-there : goal.settle_entered-requires-clause-there
settle_entered-requires-clause-there c =
    let mid = c.set_state.ensures c.requires.fresh.who Fresh c.requires.fresh.call in
    let w = world_of c.args.self.now in (
      c.requires.fresh.who,
      c.requires.fresh.node,
      record {
        state = Hit c.args.value;
        call = ap (λ (z : World). slice_get z.calls c.args.call) mid ∙ set_there w.calls c.args.call _ _ c.requires.fresh.call;
        there = ap (λ (z : World). slice_get z.nodes c.requires.fresh.who.node) mid ∙ c.requires.fresh.there;
      },
    )

pub set_state-requires-in-Err : goal.set_state-requires-in-Err
set_state-requires-in-Err c =
    let mid = c.set_state.ensures c.requires.fresh.who Fresh c.requires.fresh.call in
    let w = world_of c.args.self.now in
    let less : c.args.call < length w.calls = slice_get_within w.calls c.args.call _ c.requires.fresh.call in
    omega (
      arith,
      less,
      ap (λ (z : World). length z.calls) (c.in-Err.ensures.err ∙ mid),
      length_set w.calls c.args.call (record { caller = c.requires.fresh.who; state = Hit c.args.value }),
    )

pub returns-in-Ok-clause-ok : goal.returns-in-Ok-clause-ok
returns-in-Ok-clause-ok c =
    let mid = c.set_state.ensures c.requires.fresh.who Fresh c.requires.fresh.call in
    let w = world_of c.args.self.now in
    let has : HasCall (world_of c.set_state.new.self) c.args.call c.requires.fresh.who c.requires.fresh.node = record {
      state = Hit c.args.value;
      call = ap (λ (z : World). slice_get z.calls c.args.call) mid ∙ set_there w.calls c.args.call _ _ c.requires.fresh.call;
      there = ap (λ (z : World). slice_get z.nodes c.requires.fresh.who.node) mid ∙ c.requires.fresh.there;
    } in
    find_done w (world_of c.set_state.new.self) (world_of c.settle_entered.new.self) c.args.call c.requires.fresh.who c.requires.fresh.node
    (record { value = c.args.value; ticket = c.args.ticket }) c.requires.fresh.call c.requires.fresh.there c.requires.fresh.is_kept mid
    (c.in-Ok.ensures.ok c.requires.fresh.who c.requires.fresh.node has)

pub returns-in-Err-clause-same : goal.returns-in-Err-clause-same
returns-in-Err-clause-same c =
    let mid = c.set_state.ensures c.requires.fresh.who Fresh c.requires.fresh.call in
    let w = world_of c.args.self.now in
    let back = c.in-Err.ensures.err ∙ mid in
    let at = ap (λ (z : World). slice_get z.calls c.args.call) back ∙ set_there w.calls c.args.call _ _ c.requires.fresh.call in
    c.set_state-in-Err.ensures c.requires.fresh.who (Hit c.args.value) at
    ∙ ap (λ (z : World). with_state z c.args.call c.requires.fresh.who Fresh) back
    ∙ state_back w c.args.call c.requires.fresh.who Fresh (Hit c.args.value) c.requires.fresh.call
