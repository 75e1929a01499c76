use Rattle.std.proofs.Common.{rules, ◌≡◌, ◌∙◌, ◌++◌, ◌∷◌, [], Some, ap, sym, string_bytes, is_some}
use Rattle.std.proofs.lemmas.Map.Text.{btree_map_updates_text}
use Rattle.iiif_tile_group.specs.Collection.{item_named}
use Rattle.iiif_tile_group.specs.Items.{item_of}
use Rattle.iiif_tile_group.proofs.ItemLemmas.{index_pushed}
use Rattle.iiif_tile_group.proofs.catalogue.Catalogue.push.Goals as goal

pub invariant_of-self-2 : goal.invariant_of-self-2
invariant_of-self-2 g c =
    let es = c.self.inside.entries.items in
    let name = string_bytes c.args.name in
    index_pushed item_of c.self.inside.indices c.insert.new.self es c.push_reserved.new.self.items c.args.entry name c.len.result
    c.self.invariant (ap (λ items. is_some (item_named items name)) c.self.view_is ∙ c.requires.absent) c.requires.named
    (search rules) (c.push_reserved.ensures.items ∙ ap (λ xs. xs ++ c.args.entry ∷ []) c.reserve.ensures.items)
    (btree_map_updates_text name c.self.inside.indices c.insert.new.self (Some c.len.result) c.in_ok-insert.ensures.updates)
