use Rattle.std.proofs.Common.{◌≡◌, Some, false, sym, ap, ◌∙◌}
use Rattle.std.specs.HashMap.{get}
use Rattle.iiif_outcome.specs.Views.{flight_key}
use Rattle.std.specs.Map.{lookup}
use Rattle.iiif_singleflight.specs.declared.flights_of_class.OpenFlight.{OpenFlight}
use Rattle.iiif_singleflight.proofs.Keyed.{keyed_with, either_way}
use Rattle.iiif_singleflight.proofs.flights_of_class.FlightsOfClass.open.Goals as goal

pub invariant_of-self-2 : goal.invariant_of-self-2
invariant_of-self-2 g c =
    let eq = g.K.PartialEq.eq in
    let m = c.reserve.new.self in
    let n = c.insert.new.self in
    let w : OpenFlight g.row.K.Denot g.row.J.Denot g.row.L.Denot g.row.K-Value.Denot g.K.CacheKey g.K.PartialEq g.K.Hash g.J.System =
    record { flight = c.in_ok-lead.flight; found = false } in
    let before : (q : g.row.K.Denot)
    (x : OpenFlight g.row.K.Denot g.row.J.Denot g.row.L.Denot g.row.K-Value.Denot g.K.CacheKey g.K.PartialEq g.K.Hash g.J.System) →
    get eq m q ≡ Some x → flight_key x.flight ≡ q = λ q x is.
    c.args.self.now.keyed q x (sym (c.in_ok-reserve.ensures.entries.2 q) ∙ is) in
    let key = c.in_ok-lead.ensures.flight.0 ∙ sym c.in_ok-name.ensures in
    record {
      keyed = either_way c.insert.result _ _ _ c.insert.ensures.updates c.insert.ensures.err
          (λ up. keyed_with eq g.met.K.CacheKey.identical (λ x. flight_key x.flight) c.in_ok-name.name w (get eq m) (get eq n) key up.0
          before)
          (λ same q x is. before q x (ap (λ es. lookup (eq q) es) (sym same) ∙ is));
    }
