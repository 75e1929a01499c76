use Rattle.std.proofs.Common.{◌≡◌, None, option_map, refl, sym, ap, ◌∙◌, rules}
use Rattle.std.specs.Arc.{arc_value}
use Rattle.iiif_tables.specs.Flights.{again}
use Rattle.iiif_outcome.specs.Views.{lead_class, lead_key, lead_ticket}
use Rattle.iiif_singleflight.specs.View.{table_of}
use Rattle.iiif_singleflight.proofs.Looking.{again_nothing}
use Rattle.iiif_singleflight.proofs.table.Table.look_again.Goals as goal

pub returns-in-Ok-None : goal.returns-in-Ok-None
returns-in-Ok-None g c =
    let eq = g.K.PartialEq.eq in
    let l = c.args.lead in
    let plain = table_of eq c.args.self.now in
    let found : (again eq (lead_class l) (lead_key l) (lead_ticket l) plain).0 ≡ None = sym c.in-Ok-None.ensures.found ∙
    ap (option_map arc_value) c.in-Ok-None.field-0-is in (
      refl,
      c.in-Ok-None.ensures.table ∙ again_nothing eq (lead_class l) (lead_key l) plain (lead_ticket l) found,
      search rules,
      found,
    )
