use Rattle.std.proofs.Common.{◌≡◌, length, ap, ◌∙◌, arith}
use Rattle.std.specs.Prelude.{slice_get}
use Rattle.iiif_machine.specs.Worlds.{World, with_flight, with_state}
use Rattle.iiif_machine.specs.declared.rows.CallState.TheVariants.{In}
use Rattle.iiif_world.specs.Code.{world_of}
use Rattle.iiif_world.proofs.contents.Contents.begin_flight.Goals as goal

pub set_state-requires : goal.set_state-requires
set_state-requires c = omega (arith, ap (λ (z : World). length z.calls) c.add_flight.ensures, c.requires.there)

pub returns : goal.returns
returns c = λ who s at.
    let mid = c.add_flight.ensures in
    let number : c.len-number.result ≡ length c.args.self.now.flights.items =
    omega (arith, c.len-number.ensures, c.args.self.now.flights.ok.0) in
    c.set_state.ensures who s (ap (λ (z : World). slice_get z.calls c.args.call) mid ∙ at)
    ∙ ap (λ (z : World). with_state z c.args.call who (In c.len-number.result)) mid
    ∙ ap (λ n. with_state (with_flight (world_of c.args.self.now) c.args.lead) c.args.call who (In n)) number
