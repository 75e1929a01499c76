use Rattle.std.proofs.Common.{◌≡◌, List, position, sym, ap, ◌∙◌}
use Rattle.std.specs.Prelude.{slice_get}
use Rattle.std.proofs.lemmas.Option.{none-some}
use Rattle.iiif_machine.specs.declared.keys.Key.{Key}
use Rattle.iiif_machine.specs.Steps.{is_open_for, lead_of}
use Rattle.iiif_machine.specs.Worlds.{World, put_table, with_node}
use Rattle.iiif_machine.specs.declared.events.Event.TheVariants.{Enter}
use Rattle.iiif_machine.specs.declared.rows.Call.{Call}
use Rattle.iiif_machine.specs.declared.rows.CallState.TheVariants.{Fresh}
use Rattle.iiif_machine.specs.declared.rows.Flight.{Flight}
use Rattle.iiif_machine.proofs.Allowed.{allowed_exactly}
use Rattle.iiif_machine.specs.Nodes.{entered_of}
use Rattle.iiif_world.specs.Code.{world_of}
use Rattle.iiif_world.specs.Entering.{HasCall}
use Rattle.iiif_world.proofs.Tabled.{row_at}
use Rattle.iiif_world.proofs.Stepped.{entering, lead_by, join_by, join_none}
use Rattle.iiif_world.proofs.contents.Contents.fly.Goals as goal

pub unreachable-requires : goal.unreachable-requires
unreachable-requires c =
    let w = world_of c.args.self.now in
    let f = c.requires.fresh in
    let same = c.in_ok-reserve_flight.ensures.same in
    let has : HasCall (world_of c.reserve_flight.new.self) c.args.call f.who f.node = record {
      state = Fresh;
      call = ap (λ (z : World). slice_get z.calls c.args.call) same ∙ f.call;
      there = ap (λ (z : World). slice_get z.nodes f.who.node) same ∙ f.there;
    } in
    let who = row_at c.args.self.now.calls.items c.args.call c.index.result.now _ c.index.ensures f.call in
    let met = sym (c.in_ok-met.ensures.met f.who f.node has) ∙ ap entered_of c.in-Joined-None.is-0 in
    let none = ap (λ (x : Call). position (is_open_for x.caller) c.args.self.now.flights.items) (sym who)
    ∙ ap (λ (fs : List Flight). position (is_open_for c.index.result.now.caller) fs) (sym c.deref.ensures.value) ∙
    sym c.open_for-open.ensures ∙ c.in-Joined-None.is-1 in
    let goes = (allowed_exactly w (Enter c.args.call) c.requires.sound.sound).0 (f.who, f.call) in
    none-some goes.0 (sym (join_none w c.args.call c.in-Joined-None.field-0-0 f.who f.node f.call f.there met none) ∙ goes.1)

pub returns-in-Led-default-clause-ok : goal.returns-in-Led-default-clause-ok
returns-in-Led-default-clause-ok c =
    let w = world_of c.args.self.now in
    let f = c.requires.fresh in
    let same = c.in_ok-reserve_flight.ensures.same in
    let has : HasCall (world_of c.reserve_flight.new.self) c.args.call f.who f.node = record {
      state = Fresh;
      call = ap (λ (z : World). slice_get z.calls c.args.call) same ∙ f.call;
      there = ap (λ (z : World). slice_get z.nodes f.who.node) same ∙ f.there;
    } in
    let who = row_at c.args.self.now.calls.items c.args.call c.index.result.now _ c.index.ensures f.call in
    let mid = c.in_ok-met.ensures.node f.who f.node has ∙
    ap (λ (z : World). with_node z f.who.node (put_table f.node f.who.key (entering f.node f.who).1)) same in
    let at = ap (λ (z : World). slice_get z.calls c.args.call) mid ∙ f.call in
    let t = c.in-Led-default.ticket in
    let met = sym (c.in_ok-met.ensures.met f.who f.node has) ∙ ap entered_of c.in-Led-default.is-0 in
    let x = c.index.result.now.caller in
    let lead : record { node = x.node; key = c.in_ok-key.key; class = x.class; ticket = t } ≡ lead_of f.who t =
    ap (λ (k : Key). record { node = x.node; key = k; class = x.class; ticket = t }) c.in_ok-key.ensures ∙
    ap (λ (y : Call). lead_of y.caller t) who in
    lead_by w (world_of c.enter_at.new.self) (world_of c.begin_flight.new.self) c.args.call t f.who f.node _ f.call f.there met mid lead
    (c.begin_flight.ensures f.who Fresh at)

pub returns-in-Joined-Some-clause-ok : goal.returns-in-Joined-Some-clause-ok
returns-in-Joined-Some-clause-ok c =
    let w = world_of c.args.self.now in
    let f = c.requires.fresh in
    let same = c.in_ok-reserve_flight.ensures.same in
    let has : HasCall (world_of c.reserve_flight.new.self) c.args.call f.who f.node = record {
      state = Fresh;
      call = ap (λ (z : World). slice_get z.calls c.args.call) same ∙ f.call;
      there = ap (λ (z : World). slice_get z.nodes f.who.node) same ∙ f.there;
    } in
    let who = row_at c.args.self.now.calls.items c.args.call c.index.result.now _ c.index.ensures f.call in
    let mid = c.in_ok-met.ensures.node f.who f.node has ∙
    ap (λ (z : World). with_node z f.who.node (put_table f.node f.who.key (entering f.node f.who).1)) same in
    let at = ap (λ (z : World). slice_get z.calls c.args.call) mid ∙ f.call in
    let met = sym (c.in_ok-met.ensures.met f.who f.node has) ∙ ap entered_of c.in-Joined-Some.is-0 in
    let first = ap (λ (x : Call). position (is_open_for x.caller) c.args.self.now.flights.items) (sym who)
    ∙ ap (λ (fs : List Flight). position (is_open_for c.index.result.now.caller) fs) (sym c.deref.ensures.value) ∙
    sym c.open_for-open.ensures ∙ c.in-Joined-Some.is-1 in
    join_by w (world_of c.enter_at.new.self) (world_of c.set_state.new.self) c.args.call c.in-Joined-Some.field-0-0 c.in-Joined-Some.flight
    f.who f.node f.call f.there met first mid
    (c.set_state.ensures f.who Fresh at)
