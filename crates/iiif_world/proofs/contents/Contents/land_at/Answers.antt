use Rattle.std.proofs.Common.{refl, ap, ◌∙◌}
use Rattle.iiif_machine.specs.Rows as rows
use Rattle.iiif_machine.specs.Worlds.{put_table, table_at}
use Rattle.iiif_machine.specs.Tables.{land as landed}
use Rattle.iiif_machine.specs.declared.rows.Lead.{Lead}
use Rattle.iiif_machine.specs.declared.rows.Flight.{Flight}
use Rattle.iiif_machine.specs.Nodes.{node_of}
use Rattle.iiif_world.specs.Code.{world_of}
use Rattle.iiif_world.proofs.Tabled.{row_at, found_at, node_put, node_kept, on_err}
use Rattle.iiif_world.proofs.contents.Contents.land_at.Goals as goal

pub returns-clause-ok : goal.returns-clause-ok
returns-clause-ok c = λ l n o has val.
    let same = ap (λ (f : Flight). f.lead) (row_at c.args.self.now.flights.items c.args.flight c.index.result.now _ c.index.ensures
    has.flight) in
    let place = ap (λ (x : Lead). x.node) same in
    let h = found_at c.args.self.now.nodes.items c.index.result.now.lead.node l.node c.index_mut.result.now n place
    c.index_mut.ensures.value has.there in
    let made = c.in_ok-land.ensures.ok o val
    ∙ ap (λ (x : Lead). put_table (node_of c.index_mut.result.now) x.key
    (landed (table_at (node_of c.index_mut.result.now) x.key) x.key x.class x.ticket o c.args.place c.args.keep)) same
    ∙ ap (λ (y : rows.Node). put_table y l.key (landed (table_at y l.key) l.key l.class l.ticket o c.args.place c.args.keep)) h.1 in
    node_put (world_of c.args.self.now) c.args.self.now.nodes.items c.index.result.now.lead.node l.node c.land.new.self _ refl place made

pub returns-in_err-land-clause-err : goal.returns-in_err-land-clause-err
returns-in_err-land-clause-err c =
    let r = c.requires in
    let same = ap (λ (f : Flight). f.lead) (row_at c.args.self.now.flights.items c.args.flight c.index.result.now _ c.index.ensures
    r.2.flight) in
    let h = found_at c.args.self.now.nodes.items c.index.result.now.lead.node r.0.node c.index_mut.result.now r.1
    (ap (λ (x : Lead). x.node) same) c.index_mut.ensures.value r.2.there in
    on_err c.from_residual.result
    (node_kept (world_of c.args.self.now) c.args.self.now.nodes.items c.index.result.now.lead.node c.index_mut.result.now c.land.new.self
    refl h.0 c.in_err-land.ensures.err)
