use Rattle.std.proofs.Common.{Some, sym, ap, ◌∙◌}
use Rattle.std.proofs.lemmas.Option.{slice_get-get_or, get_or_from_slice_get}
use Rattle.iiif_machine.specs.Keys.{meaning}
use Rattle.iiif_machine.specs.declared.rows.Flight.{Flight}
use Rattle.iiif_world.specs.Code.{world_of}
use Rattle.iiif_world.proofs.contents.Contents.value_of.Goals as goal

pub meaning-requires-clause-fits : goal.meaning-requires-clause-fits
meaning-requires-clause-fits c =
    let fs = (world_of c.args.self.now).flights in
    let f = c.index.result.now in
    (c.requires.honest.flights c.args.flight f (slice_get-get_or fs c.args.flight f c.requires.there ∙ ap Some (sym c.index.ensures))).fits

pub returns : goal.returns
returns c = λ f at.
    let fs = (world_of c.args.self.now).flights in
    c.in_ok-value.ensures ∙ ap (λ (x : Flight). meaning (world_of c.args.self.now).scene x.lead.key)
    (c.index.ensures ∙ get_or_from_slice_get fs c.args.flight f _ at)
