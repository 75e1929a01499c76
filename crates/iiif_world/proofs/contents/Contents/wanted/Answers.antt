use Rattle.std.proofs.Common.{Ok, Err, refl, sym, ap, ◌∙◌}
use Rattle.iiif_machine.specs.Worlds.{speaker}
use Rattle.iiif_machine.specs.Nodes.{node_of}
use Rattle.iiif_world.specs.Code.{world_of}
use Rattle.iiif_world.proofs.Allowing.{want_allowed}
use Rattle.iiif_world.proofs.Stepped.{want_none, want_lost, want_mute}
use Rattle.iiif_world.proofs.Tabled.{on_err}
use Rattle.iiif_world.proofs.Wanted.{refused_done, resolves_to}
use Rattle.iiif_world.proofs.contents.Contents.wanted.Goals as goal

pub returns-in_default-clause-ok : goal.returns-in_default-clause-ok
returns-in_default-clause-ok c = want_none (world_of c.args.self.now) c.args.node c.args.name.now c.args.request.now c.in_default.ensures

pub returns-in_default-picture-clause-ok : goal.returns-in_default-picture-clause-ok
returns-in_default-picture-clause-ok c =
    want_lost (world_of c.args.self.now) c.args.node c.args.name.now c.args.request.now (node_of c.in-Some.at.now) c.in-Some.ensures
    c.in_default-picture.ensures

pub returns-then-not-speaks-clause-ok : goal.returns-then-not-speaks-clause-ok
returns-then-not-speaks-clause-ok c =
    want_mute (world_of c.args.self.now) c.args.node c.args.name.now c.args.request.now (node_of c.in-Some.at.now)
    c.in-Some-picture.picture.now c.version_shown.result c.in-Some.ensures
    c.in-Some-picture.ensures c.version_shown.ensures (c.if-not-speaks.ensures.no refl)

pub accepted-requires-clause-resolved : goal.accepted-requires-clause-resolved
accepted-requires-clause-resolved c =
    resolves_to (world_of c.args.self.now).scene c.in-Some-picture.picture.now c.args.request.now (Ok c.in-Ok.resolved) c.dim_of.result
    c.kind_of.result c.dim_of.ensures c.kind_of.ensures c.in-Ok.ensures.value

pub returns-in-Err-clause-ok : goal.returns-in-Err-clause-ok
returns-in-Err-clause-ok c =
    let solved = resolves_to (world_of c.args.self.now).scene c.in-Some-picture.picture.now c.args.request.now (Err c.in-Err.refusal)
    c.dim_of.result c.kind_of.result c.dim_of.ensures
    c.kind_of.ensures c.in-Err.ensures.value in
    refused_done (world_of c.args.self.now) (record { node = c.args.node; name = c.in_ok-copy.field-0; request = c.args.request.now })
    (node_of c.in-Some.at.now)
    c.in-Some-picture.picture.now c.in-Err.refusal c.args.name.now c.new-calls.result.items c.in_ok-copy.ensures c.in-Some.ensures
    c.in-Some-picture.ensures
    (ap (λ n. speaker (node_of c.in-Some.at.now) n) (sym c.version_shown.ensures) ∙ c.if-not-speaks.ensures.yes refl) solved
    c.new-calls.ensures.items

pub returns-in_err-copy-clause-err : goal.returns-in_err-copy-clause-err
returns-in_err-copy-clause-err c =
    on_err c.from_residual.result
    (want_allowed (world_of c.args.self.now) c.args.node c.args.name.now c.args.request.now (node_of c.in-Some.at.now)
    c.in-Some-picture.picture.now c.version_shown.result c.in-Some.ensures
    c.in-Some-picture.ensures c.version_shown.ensures (c.if-not-speaks.ensures.yes refl))

pub returns-in_err-accepted-in-Ok-clause-err : goal.returns-in_err-accepted-in-Ok-clause-err
returns-in_err-accepted-in-Ok-clause-err c =
    on_err c.from_residual-in_err-accepted-in-Ok.result
    (want_allowed (world_of c.args.self.now) c.args.node c.args.name.now c.args.request.now (node_of c.in-Some.at.now)
    c.in-Some-picture.picture.now c.version_shown.result c.in-Some.ensures
    c.in-Some-picture.ensures c.version_shown.ensures (c.if-not-speaks.ensures.yes refl))
