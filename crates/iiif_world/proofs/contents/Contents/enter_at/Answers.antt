use Rattle.std.proofs.Common.{refl, ap, ◌∙◌}
use Rattle.iiif_machine.specs.Rows as rows
use Rattle.iiif_machine.specs.Worlds.{put_table, table_at}
use Rattle.iiif_tables.specs.Flights.{enter as entering}
use Rattle.iiif_machine.specs.Keys.{key_eq}
use Rattle.iiif_machine.specs.declared.rows.Caller.{Caller}
use Rattle.iiif_machine.specs.declared.rows.Call.{Call}
use Rattle.iiif_machine.specs.Nodes.{node_of}
use Rattle.iiif_world.specs.Code.{world_of}
use Rattle.iiif_world.proofs.Tabled.{row_at, found_at, node_put, node_kept, on_err}
use Rattle.iiif_world.proofs.contents.Contents.enter_at.Goals as goal

pub returns-clause-met : goal.returns-clause-met
returns-clause-met c = λ who n has.
    let same = ap (λ (f : Call). f.caller) (row_at c.args.self.now.calls.items c.args.call c.index.result.now _ c.index.ensures has.call) in
    let h = found_at c.args.self.now.nodes.items c.index.result.now.caller.node who.node c.index_mut.result.now n
    (ap (λ (x : Caller). x.node) same) c.index_mut.ensures.value has.there in
    c.in_ok-met.ensures.met
    ∙ ap (λ (x : Caller). (entering key_eq x.class x.key (table_at (node_of c.index_mut.result.now) x.key)).0) same
    ∙ ap (λ (y : rows.Node). (entering key_eq who.class who.key (table_at y who.key)).0) h.1

pub returns-clause-node : goal.returns-clause-node
returns-clause-node c = λ who n has.
    let same = ap (λ (f : Call). f.caller) (row_at c.args.self.now.calls.items c.args.call c.index.result.now _ c.index.ensures has.call) in
    let place = ap (λ (x : Caller). x.node) same in
    let h = found_at c.args.self.now.nodes.items c.index.result.now.caller.node who.node c.index_mut.result.now n place
    c.index_mut.ensures.value has.there in
    let made = c.in_ok-met.ensures.node
    ∙ ap (λ (x : Caller). put_table (node_of c.index_mut.result.now) x.key
    (entering key_eq x.class x.key (table_at (node_of c.index_mut.result.now) x.key)).1) same
    ∙ ap (λ (y : rows.Node). put_table y who.key (entering key_eq who.class who.key (table_at y who.key)).1) h.1 in
    node_put (world_of c.args.self.now) c.args.self.now.nodes.items c.index.result.now.caller.node who.node c.enter.new.self _ refl place
    made

pub returns-in_err-met-clause-err : goal.returns-in_err-met-clause-err
returns-in_err-met-clause-err c =
    let r = c.requires in
    let same = ap (λ (f : Call). f.caller) (row_at c.args.self.now.calls.items c.args.call c.index.result.now _ c.index.ensures r.2.call) in
    let h = found_at c.args.self.now.nodes.items c.index.result.now.caller.node r.0.node c.index_mut.result.now r.1
    (ap (λ (x : Caller). x.node) same) c.index_mut.ensures.value r.2.there in
    on_err c.from_residual.result
    (node_kept (world_of c.args.self.now) c.args.self.now.nodes.items c.index.result.now.caller.node c.index_mut.result.now c.enter.new.self
    refl h.0 c.in_err-met.ensures.err)
