use Rattle.std.proofs.Common.{List, map, Some, sym, ap, ◌∙◌}
use Rattle.iiif_keys.specs.declared.keys.SumKey.{SumKey}
use Rattle.iiif_machine.specs.declared.keys.Key.{Key}
use Rattle.iiif_machine.specs.declared.keys.Key.TheVariants.{Sum}
use Rattle.iiif_machine.proofs.Parts.{parts_sums}
use Rattle.iiif_machine.proofs.calling.part_keys.Goals as goal

pub returns : goal.returns
returns c =
    parts_sums c.args.key.now c.requires.0 ∙ ap (λ (l : List SumKey). Some (map (λ k. Sum k) l)) (sym c.requires.1) ∙
    ap (λ (l : List Key). Some l) (sym c.in_ok-keys.ensures)
