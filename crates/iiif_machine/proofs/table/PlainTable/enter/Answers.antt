use Rattle.std.proofs.Common.{refl, sym, ap, ◌∙◌, Some, option_map}
use Rattle.iiif_machine.specs.Nodes.{table_of}
use Rattle.iiif_machine.specs.Entries.{kept_of}
use Rattle.iiif_machine.proofs.Opening.{enter_met, hit_with}
use Rattle.iiif_machine.proofs.table.PlainTable.enter.Goals as goal

pub returns-in-Some-clause-ok : goal.returns-in-Some-clause-ok
returns-in-Some-clause-ok c =
    let k = c.args.key.now in
    let t = table_of c.args.self.now in
    let e = kept_of c.in-Some.found in
    enter_met c.args.class k t (Some e) (t.flights c.args.class k) (sym c.in_ok-kept.ensures ∙ ap (option_map kept_of) c.in-Some.is) refl
    ∙ ap (hit_with e t) (sym c.touch.ensures)
