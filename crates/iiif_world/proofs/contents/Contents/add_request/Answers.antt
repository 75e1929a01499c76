use Rattle.std.proofs.Common.{List, [], ◌∷◌, ◌++◌, ap, ◌∙◌}
use Rattle.iiif_machine.specs.declared.rows.Call.{Call}
use Rattle.iiif_machine.specs.declared.rows.RequestRow.{RequestRow}
use Rattle.iiif_world.specs.Code.{world_of}
use Rattle.iiif_world.proofs.Tabled.{on_err}
use Rattle.iiif_world.proofs.contents.Contents.add_request.Goals as goal

pub returns-in_err-reserve-clause-err : goal.returns-in_err-reserve-clause-err
returns-in_err-reserve-clause-err c =
    on_err c.from_residual.result (ap (λ (qs : List RequestRow). record (world_of c.args.self.now) { requests = qs })
    c.in_err-reserve.ensures.items)

pub returns-in_err-append-clause-err : goal.returns-in_err-append-clause-err
returns-in_err-append-clause-err c =
    on_err c.from_residual-in_err-append.result
    (ap (λ (qs : List RequestRow). record (world_of c.args.self.now) { requests = qs; calls = c.append.new.self.items })
    c.in_ok-reserve.ensures.items
    ∙ ap (λ (cs : List Call). record (world_of c.args.self.now) { calls = cs }) c.in_err-append.ensures.items)

pub returns-clause-ok : goal.returns-clause-ok
returns-clause-ok c =
    ap (λ (qs : List RequestRow). record (world_of c.args.self.now) { requests = qs; calls = c.append.new.self.items })
    (c.in-Ok.ensures.items ∙ ap (λ (qs : List RequestRow). qs ++ c.args.wanted ∷ []) c.in_ok-reserve.ensures.items)
    ∙ ap (λ (cs : List Call). record (world_of c.args.self.now)
    { requests = c.args.self.now.requests.items ++ c.args.wanted ∷ []; calls = cs }) c.in_ok-append.ensures.items
