use Rattle.std.proofs.Common.{◌≡◌, true, Some, is_some, sym, ap}
use Rattle.std.specs.HashMap.{get}
use Rattle.iiif_outcome.specs.Views.{flight_key}
use Rattle.iiif_singleflight.proofs.Keyed.{keyed_with}
use Rattle.iiif_singleflight.proofs.flights_of_class.FlightsOfClass.mark.Goals as goal

pub invariant_of-self : goal.invariant_of-self
invariant_of-self g c =
    let eq = g.K.PartialEq.eq in
    let k = c.args.key.now in
    let m = c.args.self.now.map in
    let o = c.in-Some.one.now in
    let w = record o { found = true } in
    let at : get eq m k ≡ Some o = sym c.in-Some.ensures.value in
    let h = c.get_mut.follows.holds w in
    record {
      keyed = keyed_with eq g.met.K.CacheKey.identical (λ x. flight_key x.flight) k w (get eq m)
          (get eq (c.get_mut.follows.lender w)) (c.args.self.now.keyed k o at) (h.3 (ap is_some at)).0 c.args.self.now.keyed;
    }
