use Rattle.std.proofs.Common.{codes, Bool, inl, refl, ap}
use Rattle.std.proofs.lemmas.Result.{err_from_is_err_and}
use Rattle.iiif_event_list.specs.Code.{HasWord}
use Rattle.iiif_event_list.specs.Settings.{settings_of, edge, faults, limits, node, picture, room}
use Rattle.iiif_event_list.proofs.Bad.{bad_is, bad_on, first_is, wordless}
use Rattle.iiif_event_list.proofs.describing.Description.set.Goals as goal

pub returns-in_ok-self-in-edge-clause-yes : goal.returns-in_ok-self-in-edge-clause-yes
returns-in_ok-self-in-edge-clause-yes c = λ set.
    edge (first_is c.args.words.now c.in_ok-word.field-0.now (codes "edge") c.in_ok-word.ensures.read c.in-edge.is)
    c.in_ok-self-in-edge.ensures.0 c.in_ok-self-in-edge.field-0 c.in_ok-self-in-edge.ensures.1 refl

pub returns-in_ok-self-in-room-clause-yes : goal.returns-in_ok-self-in-room-clause-yes
returns-in_ok-self-in-room-clause-yes c = λ set.
    room (first_is c.args.words.now c.in_ok-word.field-0.now (codes "room") c.in_ok-word.ensures.read c.in-room.is)
    c.in_ok-self-in-room.ensures.0 c.in_ok-self-in-room.field-0 c.in_ok-self-in-room.ensures.1 refl

pub returns-in_ok-self-in-faults-clause-yes : goal.returns-in_ok-self-in-faults-clause-yes
returns-in_ok-self-in-faults-clause-yes c = λ set.
    faults (first_is c.args.words.now c.in_ok-word.field-0.now (codes "faults") c.in_ok-word.ensures.read c.in-faults.is)
    c.in_ok-self-in-faults.ensures.0 c.in_ok-self-in-faults.ensures.1
    (ap (λ (b : Bool). record (settings_of c.args.self.now) { faults_early = b }) c.in_ok-self-in-faults.ensures.2)

pub returns-in_ok-self-in-limits-clause-yes : goal.returns-in_ok-self-in-limits-clause-yes
returns-in_ok-self-in-limits-clause-yes c = λ set.
    limits (first_is c.args.words.now c.in_ok-word.field-0.now (codes "limits") c.in_ok-word.ensures.read c.in-limits.is)
    c.in_ok-self-in-limits.field-0 c.in_ok-self-in-limits.ensures refl

pub returns-in_ok-add_item-in-picture-clause-yes : goal.returns-in_ok-add_item-in-picture-clause-yes
returns-in_ok-add_item-in-picture-clause-yes c = λ set.
    picture (first_is c.args.words.now c.in_ok-word.field-0.now (codes "picture") c.in_ok-word.ensures.read c.in-picture.is)
    c.in_ok-picture-in-picture.field-0 c.in_ok-picture-in-picture.ensures c.in_ok-add_item-in-picture.ensures

pub returns-in_ok-add_setup-in-node-clause-yes : goal.returns-in_ok-add_setup-in-node-clause-yes
returns-in_ok-add_setup-in-node-clause-yes c = λ set.
    node (first_is c.args.words.now c.in_ok-word.field-0.now (codes "node") c.in_ok-word.ensures.read c.in-node.is)
    c.in_ok-node-in-node.field-0 c.in_ok-node-in-node.ensures c.in_ok-add_setup-in-node.ensures

pub returns-in_err-word-clause-bad : goal.returns-in_err-word-clause-bad
returns-in_err-word-clause-bad c =
    let ws = c.args.words.now in
    λ is. inl (wordless ws (bad_is c.from_residual.result (HasWord ws 0)
    (bad_on (HasWord ws 0) (HasWord ws 0) c.from_residual.result c.in_err-word.field-0.0 (λ h. h) c.in_err-word.ensures.bad
    (err_from_is_err_and c.from_residual.result c.from_residual.ensures.1)) is))
