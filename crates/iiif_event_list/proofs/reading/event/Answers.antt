use Rattle.std.proofs.lemmas.Result.{err_from_is_err_and}
use Rattle.iiif_event_list.specs.Code.{HasEvict, HasLand, HasOne, HasSourceFault, HasTake, HasWant, HasWord}
use Rattle.iiif_event_list.proofs.Bad.{bad_is, bad_on, no_evict, no_land, no_name, no_numbered, no_source_fault, no_take, no_want}
use Rattle.iiif_event_list.proofs.reading.event.Goals as goal

pub returns-in_err-name-clause-bad : goal.returns-in_err-name-clause-bad
returns-in_err-name-clause-bad c =
    let ws = c.args.words.now in
    λ is. no_name ws (bad_is c.from_residual.result (HasWord ws 0)
    (bad_on (HasWord ws 0) (HasWord ws 0) c.from_residual.result c.in_err-name.field-0.0 (λ h. h) c.in_err-name.ensures.bad
    (err_from_is_err_and c.from_residual.result c.from_residual.ensures.1)) is)

pub returns-in_err-one-in_default-clause-bad : goal.returns-in_err-one-in_default-clause-bad
returns-in_err-one-in_default-clause-bad c =
    let ws = c.args.words.now in
    λ is. no_numbered ws c.in_ok-name.name.now c.in_ok-name.ensures.read (record {
      want = c.in_default.not-want;
      take = c.in_default.not-take;
      source_fault = c.in_default.not-source_fault;
      land = c.in_default.not-land;
      evict = c.in_default.not-evict;
    }) (λ has. bad_is c.from_residual-in_err-one-in_default.result (HasOne ws)
    (bad_on (HasOne ws) (HasOne ws) c.from_residual-in_err-one-in_default.result c.in_err-one-in_default.field-0.0 (λ h. h)
    c.in_err-one-in_default.ensures.bad
    (err_from_is_err_and c.from_residual-in_err-one-in_default.result c.from_residual-in_err-one-in_default.ensures.1)) is has.1)

pub returns-in-want-clause-bad : goal.returns-in-want-clause-bad
returns-in-want-clause-bad c =
    let ws = c.args.words.now in
    λ is. no_want ws c.in_ok-name.name.now c.in_ok-name.ensures.read c.in-want.is (bad_is c.want.result (HasWant ws) c.want.ensures.bad is)

pub returns-in-take-clause-bad : goal.returns-in-take-clause-bad
returns-in-take-clause-bad c =
    let ws = c.args.words.now in
    λ is. no_take ws c.in_ok-name.name.now c.in_ok-name.ensures.read c.in-take.is (bad_is c.take.result (HasTake ws) c.take.ensures.bad is)

pub returns-in-source_fault-clause-bad : goal.returns-in-source_fault-clause-bad
returns-in-source_fault-clause-bad c =
    let ws = c.args.words.now in
    λ is. no_source_fault ws c.in_ok-name.name.now c.in_ok-name.ensures.read c.in-source_fault.is
    (bad_is c.source_fault.result (HasSourceFault ws) c.source_fault.ensures.bad is)

pub returns-in-land-clause-bad : goal.returns-in-land-clause-bad
returns-in-land-clause-bad c =
    let ws = c.args.words.now in
    λ is. no_land ws c.in_ok-name.name.now c.in_ok-name.ensures.read c.in-land.is (bad_is c.land.result (HasLand ws) c.land.ensures.bad is)

pub returns-in-evict-clause-bad : goal.returns-in-evict-clause-bad
returns-in-evict-clause-bad c =
    let ws = c.args.words.now in
    λ is. no_evict ws c.in_ok-name.name.now c.in_ok-name.ensures.read c.in-evict.is
    (bad_is c.evict.result (HasEvict ws) c.evict.ensures.bad is)
