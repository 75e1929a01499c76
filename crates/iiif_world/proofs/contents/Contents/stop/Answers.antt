use Rattle.std.proofs.Common.{◌≡◌, ◌<◌, map, length, refl, sym, ap, ◌∙◌, Some, arith}
use Rattle.std.specs.Prelude.{slice_get, slice_set}
use Rattle.std.proofs.lemmas.Option.{slice_get-get_or, slice_get_past}
use Rattle.iiif_machine.proofs.Lists.{get_map}
use Rattle.iiif_machine.specs.Steps.{flight_stopped, call_stopped, request_stopped}
use Rattle.iiif_machine.specs.Nodes.{node_of}
use Rattle.iiif_world.specs.Code.{world_of}
use Rattle.iiif_world.proofs.Changed.{missing_map, map-set, made_is}
use Rattle.iiif_world.proofs.Stepped.{stop_done}
use Rattle.iiif_world.proofs.Refused.{stop_gone}
use Rattle.iiif_world.proofs.contents.Contents.stop.Goals as goal

pub returns-clause-ok : goal.returns-clause-ok
returns-clause-ok c =
    let ns = c.args.self.now.nodes.items in
    let i = c.args.node in
    let n = c.index_mut.result.now in
    let m = c.empty.new.self in
    let less : i < length ns = omega (arith, c.if-node-len.false, c.len.ensures, c.args.self.now.nodes.ok.0) in
    let at : slice_get ns i ≡ Some n = slice_get-get_or ns i n less ∙ ap Some (sym c.index_mut.ensures.value) in
    let flights : c.stop_flights.new.flights ≡ map (flight_stopped i) c.args.self.now.flights.items = c.stop_flights.ensures ∙
    ap (map (flight_stopped i)) c.deref_mut.ensures.value in
    let calls : c.stop_calls.new.calls ≡ map (call_stopped i) c.args.self.now.calls.items = c.stop_calls.ensures ∙
    ap (map (call_stopped i)) c.deref_mut-2.ensures.value in
    let requests : c.stop_requests.new.requests ≡ map (request_stopped i) c.args.self.now.requests.items = c.stop_requests.ensures ∙
    ap (map (request_stopped i)) c.deref_mut-3.ensures.value in
    stop_done (world_of c.args.self.now) _ i (node_of n) (node_of m) (map node_of (slice_set ns i m)) _ _ _ (get_map node_of ns i n at)
    (map-set node_of ns i m) c.empty.ensures
    (made_is c.args.self.now.flights c.stop_flights.new.flights (flight_stopped i) flights)
    (made_is c.args.self.now.calls c.stop_calls.new.calls (call_stopped i) calls)
    (made_is c.args.self.now.requests c.stop_requests.new.requests (request_stopped i) requests) refl

pub returns-then-node-len-clause-not_now : goal.returns-then-node-len-clause-not_now
returns-then-node-len-clause-not_now c = λ same.
    let ns = c.args.self.now.nodes.items in
    stop_gone (world_of c.args.self.now) c.args.node
    (missing_map node_of ns c.args.node (slice_get_past ns c.args.node
    (omega (arith, c.if-node-len.true, c.len.ensures, c.args.self.now.nodes.ok.0))))
