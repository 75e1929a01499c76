use Rattle.std.proofs.Common.{◌≡◌, Some, ap, ◌∙◌}
use Rattle.std.specs.Prelude.{slice_get}
use Rattle.iiif_machine.specs.Keys.{parts_of}
use Rattle.iiif_machine.specs.Worlds.{decided}
use Rattle.iiif_machine.specs.declared.rows.Stage.TheVariants.{Looked, Parts}
use Rattle.iiif_machine.specs.Nodes.{node_of}
use Rattle.iiif_world.specs.Code.{world_of}
use Rattle.iiif_machine.specs.Heard.{heard_all}
use Rattle.iiif_world.proofs.Loaded.{local_at}
use Rattle.iiif_world.proofs.Stepped.{load_none, no_load}
use Rattle.iiif_world.proofs.contents.Contents.loading.Goals as goal

pub returns-in-Looked-Tile : goal.returns-in-Looked-Tile
unfolding parts_of
returns-in-Looked-Tile c =
    let w = world_of c.args.self.now in
    let at : slice_get w.flights c.args.flight ≡ Some c.in-Some.row.now = c.in-Some.ensures in (
      local_at w c.args.flight c.in-Some.row.now (node_of c.in-Some-node_at._node.now) Looked at c.in-Some-node_at.ensures c.in-Local.is
          c.in-Looked-Tile.is-0,
      ap parts_of c.in-Looked-Tile.is-1,
    )

pub returns-in-Looked-Sum : goal.returns-in-Looked-Sum
returns-in-Looked-Sum c =
    let w = world_of c.args.self.now in
    let at : slice_get w.flights c.args.flight ≡ Some c.in-Some.row.now = c.in-Some.ensures in (
      local_at w c.args.flight c.in-Some.row.now (node_of c.in-Some-node_at._node.now) Looked at c.in-Some-node_at.ensures c.in-Local.is
          c.in-Looked-Sum.is-0,
      c.in-Looked-Sum.field-0-1,
      c.in-Looked-Sum.is-1,
    )

pub returns-in-Parts-default : goal.returns-in-Parts-default
returns-in-Parts-default c =
    let w = world_of c.args.self.now in
    let at : slice_get w.flights c.args.flight ≡ Some c.in-Some.row.now = c.in-Some.ensures in (
      c.in-Parts-default.calls,
      local_at w c.args.flight c.in-Some.row.now (node_of c.in-Some-node_at._node.now) (Parts c.in-Parts-default.calls) at
          c.in-Some-node_at.ensures c.in-Local.is c.in-Parts-default.is-0,
      c.gathered.ensures ∙ ap (λ cs. heard_all (decided w cs)) c.items.ensures,
    )

pub returns-in_default-2 : goal.returns-in_default-2
returns-in_default-2 c =
    let w = world_of c.args.self.now in
    let at : slice_get w.flights c.args.flight ≡ Some c.in-Some.row.now = c.in-Some.ensures in
    load_none w c.args.flight c.in-Some.row.now.lead (node_of c.in-Some-node_at._node.now) c.in-Some.row.now.stage c.in-Local.is at
    c.in-Some-node_at.ensures
    (no_load w c.args.flight c.in-Some.row.now.lead (node_of c.in-Some-node_at._node.now) c.in-Some.row.now.stage
    c.in_default-2.not-Looked-0 c.in_default-2.not-Parts-0)
