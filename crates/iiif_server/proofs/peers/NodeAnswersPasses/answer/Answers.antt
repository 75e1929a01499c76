use Rattle.std.proofs.Common.{◌∙◌, ap, List}
use Rattle.iiif_tile_group.specs.Collection.{Item}
use Rattle.iiif_tile_group.specs.Named.{gave_of, pictures_of, stable_of}
use Rattle.iiif_server.proofs.PeerLemmas.{kept_stable, same_node}
use Rattle.iiif_server.proofs.peers.NodeAnswersPasses.answer.Goals as goal

pub returns-clause-allowed : goal.returns-clause-allowed
returns-clause-allowed g c =
    let images = c.images-images.ensures in
    let items = c.args.self.now.items in
    let ask = c.args.ask.now in
    same_node g.J.System.pictures (pictures_of g.S.Source.bytes items) g.J.System.edge c.args.self.now.settings.edge g.J.System.gave
    (gave_of g.S.Source.gave items)
    g.J.System.stable (stable_of g.S.Source.keeps items) g.J.System.honest ask.version ask.group ask.key.items c.answer.result.0
    c.answer.result.1.items
    (λ name. images.pictures name ∙ ap (λ (xs : List (Item g.row.S.Denot)). pictures_of g.S.Source.bytes xs name) images.items) images.edge
    (λ name f. images.gave name f ∙ ap (λ (xs : List (Item g.row.S.Denot)). gave_of g.S.Source.gave xs name f) images.items)
    (kept_stable g.S.Source.keeps g.J.System.stable items images.kept) c.answer.ensures.allowed
