use Rattle.std.proofs.Common.{◌≡◌, ◌++◌, rules, [], ◌∷◌, List, Some, sym, ap, ◌∙◌}
use Rattle.iiif_keys.specs.declared.keys.TileKey.{TileKey}
use Rattle.iiif_machine.specs.declared.keys.Key.{Key}
use Rattle.iiif_machine.specs.declared.keys.Key.TheVariants.{Tile}
use Rattle.iiif_machine.proofs.Parts.{parts_tile}
use Rattle.iiif_machine.proofs.calling.one_key.Goals as goal

pub returns : goal.returns
returns c =
    let empty : c.new-keys.result.items ≡ [] = search rules in
    parts_tile c.args.key.now c.requires.0 ∙ ap (λ (t : TileKey). Some (Tile t ∷ [])) (sym c.requires.1) ∙
    ap (λ (l : List Key). Some l) (sym (c.in_ok-push.ensures.items ∙ ap (λ (l : List Key). l ++ Tile c.args.tile ∷ []) empty))
