use Rattle.std.proofs.Common.{◌∙◌, List, ap, sym}
use Rattle.iiif_tile_group.specs.Collection.{Item, item_named}
use Rattle.iiif_server.proofs.node.Node.new.Goals as goal

pub invariant_of-result : goal.invariant_of-result
invariant_of-result g c =
    let items = c.new-groups.ensures ∙ c.new-tiles.ensures ∙ c.new-images.ensures in
    record {
      has_edge = c.requires.names.edge;
      kept = λ name item found.
          c.requires.names.kept name item (sym (ap (λ (xs : List (Item g.row.S.Denot)). item_named xs name) items) ∙ found);
    }
