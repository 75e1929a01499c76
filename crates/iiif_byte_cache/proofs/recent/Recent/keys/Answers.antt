use Rattle.std.proofs.Common.{◌≡◌, [], ◌++◌, map, ap, sym, ◌∙◌}
use Rattle.std.proofs.lemmas.List.{append-nil}
use Rattle.iiif_outcome.specs.Views.{kept_of}
use Rattle.iiif_byte_cache.proofs.RowLemmas.{keys-turned}
use Rattle.iiif_byte_cache.proofs.recent.Recent.keys.Goals as goal

pub returns : goal.returns
returns g c =
    let none : c.loop-key.key-iterator ≡ [] = c.in-None.ensures.steps.0 in
    sym (append-nil c.loop-key.keys.items)
    ∙ ap (λ r. c.loop-key.keys.items ++ map (λ e. e.0) r) (sym none)
    ∙ c.loop-key.invariant
    ∙ sym (keys-turned kept_of c.args.self.now.list.entries)
