use Rattle.std.proofs.Common.{◌≡◌, length, map, ap, ◌∙◌, arith}
use Rattle.iiif_machine.specs.Worlds.{call_for, fresh, numbers}
use Rattle.iiif_machine.specs.declared.rows.Purpose.TheVariants.{ForRequest}
use Rattle.iiif_machine.specs.Nodes.{node_of}
use Rattle.iiif_world.specs.Code.{world_of}
use Rattle.iiif_world.proofs.Wanted.{accepted_done}
use Rattle.iiif_world.proofs.contents.Contents.accepted.Goals as goal

pub returns : goal.returns
returns c =
    let count : length c.in_ok-keys.keys.items ≡ c.len-2.result = omega (arith, c.len-2.ensures, c.in_ok-keys.keys.ok.0) in
    let first : c.len.result ≡ length c.args.self.now.calls.items = omega (arith, c.len.ensures, c.args.self.now.calls.ok.0) in
    let request : c.len-3.result ≡ length c.args.self.now.requests.items = omega (arith, c.len-3.ensures, c.args.self.now.requests.ok.0) in
    accepted_done (world_of c.args.self.now) c.args.info (node_of c.args.at.now) c.args.picture.now c.args.resolved c.in_ok-keys.keys.items
    c.in_ok-calls.calls.items c.in_ok-numbers.numbers.items c.waits-progress.result
    c.requires.node c.requires.shown c.requires.speaks c.requires.resolved c.in_ok-keys.ensures
    (c.in_ok-numbers.ensures c.in_ok-keys.keys.items count ∙ ap (λ n. numbers n c.in_ok-keys.keys.items) first)
    (c.in_ok-calls.ensures ∙ ap (λ n. map fresh
    (map (call_for c.args.info.node (node_of c.args.at.now) (ForRequest n)) c.in_ok-keys.keys.items)) request)
    c.waits-progress.ensures
