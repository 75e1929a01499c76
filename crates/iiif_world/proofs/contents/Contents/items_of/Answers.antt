use Rattle.std.proofs.Common.{◌∙◌}
use Rattle.iiif_world.specs.Code.{world_of}
use Rattle.iiif_world.proofs.Wanted.{planned, resolves_at}
use Rattle.iiif_world.proofs.contents.Contents.items_of.Goals as goal

pub plan-requires-clause-inside : goal.plan-requires-clause-inside
plan-requires-clause-inside c =
    (resolves_at (world_of c.args.self.now).scene c.args.picture.now c.args.request.now c.args.resolved.now c.dim_of-dim.result
    c.dim_of-dim.ensures c.requires.resolved).inside

pub plan-requires-clause-columns : goal.plan-requires-clause-columns
plan-requires-clause-columns c =
    let is = resolves_at (world_of c.args.self.now).scene c.args.picture.now c.args.request.now c.args.resolved.now c.dim_of-dim.result
    c.dim_of-dim.ensures c.requires.resolved in
    (is.not_zero.0, is.not_empty.0)

pub plan-requires-clause-rows : goal.plan-requires-clause-rows
plan-requires-clause-rows c =
    let is = resolves_at (world_of c.args.self.now).scene c.args.picture.now c.args.request.now c.args.resolved.now c.dim_of-dim.result
    c.dim_of-dim.ensures c.requires.resolved in
    (is.not_zero.1, is.not_empty.1)

pub returns : goal.returns
returns c =
    c.in_ok-keys.ensures
    ∙ planned (world_of c.args.self.now).scene c.args.name.now c.args.picture.now c.args.resolved.now c.in_ok-plan.plan c.dim_of-dim.result
    c.kind_of-kind.result
    c.requires.proper c.requires.shown c.dim_of-dim.ensures c.kind_of-kind.ensures c.in_ok-plan.ensures.exact
