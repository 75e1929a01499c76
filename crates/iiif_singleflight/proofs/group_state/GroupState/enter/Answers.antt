use Rattle.std.proofs.Common.{◌≡◌, None, subst}
use Rattle.std.specs.Arc.{arc_value}
use Rattle.iiif_tables.specs.Cache.{kept_for}
use Rattle.iiif_tables.specs.Flights.{enter}
use Rattle.iiif_outcome.specs.Views.{lead_class, lead_key, lead_ticket}
use Rattle.iiif_singleflight.specs.Entering.{Meets}
use Rattle.iiif_singleflight.specs.View.{table_of}
use Rattle.iiif_singleflight.specs.declared.entered.Entered.TheVariants.{Lead}
use Rattle.iiif_singleflight.proofs.Looking.{again_none, found_none, led_keeps_nothing, none_is_some}
use Rattle.iiif_singleflight.proofs.group_state.GroupState.enter.Goals as goal

pub unreachable-requires : goal.unreachable-requires
unreachable-requires g c =
    let eq = g.K.PartialEq.eq in
    let class = c.args.class in
    let key = c.args.key.now in
    let l = c.in-Lead.lead in
    let before = table_of eq c.args.self.now.table in
    let after = table_of eq c.enter.new.self in
    let meets : Meets class key (enter eq class key before).0 (Lead l) =
    subst (λ (e : _). Meets class key (enter eq class key before).0 e) c.in-Lead.is c.in_ok-receipt.ensures.met in
    let none : kept_for eq (lead_key l) after.cache ≡ None =
    led_keeps_nothing eq class key before (lead_ticket l) (lead_key l) after meets.0 c.in_ok-receipt.ensures.table meets.1 in
    found_none (arc_value c.in-Found._value) _ c.in-Found.ensures.3
    (again_none eq (lead_class l) (lead_key l) after (lead_ticket l) none)

pub unreachable-requires-in-Refused : goal.unreachable-requires-in-Refused
unreachable-requires-in-Refused g c =
    let eq = g.K.PartialEq.eq in
    let class = c.args.class in
    let key = c.args.key.now in
    let l = c.in-Lead.lead in
    let before = table_of eq c.args.self.now.table in
    let after = table_of eq c.enter.new.self in
    let meets : Meets class key (enter eq class key before).0 (Lead l) =
    subst (λ (e : _). Meets class key (enter eq class key before).0 e) c.in-Lead.is c.in_ok-receipt.ensures.met in
    let none : kept_for eq (lead_key l) after.cache ≡ None =
    led_keeps_nothing eq class key before (lead_ticket l) (lead_key l) after meets.0 c.in_ok-receipt.ensures.table meets.1 in
    none_is_some _ none c.in-Refused.ensures.3
