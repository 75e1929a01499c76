use Rattle.std.proofs.Common.{◌≡◌, length, sym, ap, subst, ◌∙◌, arith}
use Rattle.iiif_machine.specs.Keys.{Fits}
use Rattle.iiif_machine.specs.Worlds.{numbers}
use Rattle.iiif_machine.specs.declared.rows.Flight.{Flight}
use Rattle.iiif_machine.specs.Nodes.{node_of}
use Rattle.iiif_world.specs.Code.{world_of}
use Rattle.iiif_world.proofs.Loaded.{calls_done}
use Rattle.iiif_world.proofs.Meant.{has_parts}
use Rattle.iiif_world.proofs.Tabled.{row_at}
use Rattle.iiif_world.proofs.contents.Contents.calls_for.Goals as goal

pub unreachable-requires : goal.unreachable-requires
unreachable-requires c =
    let a = c.requires.loading.0 in
    let same = row_at (world_of c.args.self.now).flights c.args.flight c.index.result.now _ c.index.ensures a.flight in
    c.in_default.not-Sum c.requires.loading.1 (ap (λ (f : Flight). f.lead.key) same ∙ c.requires.loading.2)

pub parts_in-requires : goal.parts_in-requires
parts_in-requires c =
    let w = world_of c.args.self.now in
    let a = c.requires.loading.0 in
    let same = row_at w.flights c.args.flight c.index.result.now _ c.index.ensures a.flight in
    let fits = (c.requires.honest.flights c.args.flight _ a.flight).fits in
    has_parts w.scene c.in-Sum.key c.requires.proper (subst (Fits w.scene) (ap (λ (f : Flight). f.lead.key) (sym same) ∙ c.in-Sum.is) fits)

pub returns : goal.returns
returns c = λ a.
    let count : length c.in_ok-keys.keys.items ≡ c.len-2.result = omega (arith, c.len-2.ensures, c.in_ok-keys.keys.ok.0) in
    let first : c.len.result ≡ length c.args.self.now.calls.items = omega (arith, c.len.ensures, c.args.self.now.calls.ok.0) in
    let w = world_of c.args.self.now in
    let same = row_at w.flights c.args.flight c.index.result.now _ c.index.ensures a.flight in
    calls_done w c.args.flight c.index.result.now (node_of c.in-Some.node.now) c.in-Sum.key c.in_ok-keys.keys.items
    c.in_ok-calls.calls.items c.in_ok-numbers.numbers.items a same
    c.in-Sum.is c.in-Some.ensures c.in_ok-keys.ensures c.in_ok-calls.ensures
    (c.in_ok-numbers.ensures c.in_ok-keys.keys.items count ∙ ap (λ n. numbers n c.in_ok-keys.keys.items) first)
