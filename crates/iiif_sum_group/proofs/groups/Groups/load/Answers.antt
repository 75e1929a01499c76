use Rattle.std.proofs.Common.{◌≡◌, ◌∙◌, subst, sym, IsTrue}
use Rattle.std.specs.Arc.{arc_value}
use Rattle.iiif_pixel.specs.Geometry.{channels_of}
use Rattle.iiif_keys.specs.Blocks.{SumFitsIn}
use Rattle.iiif_keys.specs.Meaning.{sum_is_shaped, sum_meaning}
use Rattle.iiif_keys.specs.declared.values.SumVal.{SumVal}
use Rattle.iiif_tile_group.specs.Faults.{IsLoadFault}
use Rattle.iiif_sum_group.specs.Outcomes.{NamesBlock}
use Rattle.iiif_sum_group.proofs.CountLemmas.{of_copy, of_wanting, where_ok}
use Rattle.iiif_sum_group.proofs.groups.Groups.load.Goals as goal

pub returns-in-Ok : goal.returns-in-Ok
returns-in-Ok g c =
    let node = g.J.System in
    let shows = node.pictures in
    let key = c.args.key.now in
    let copy = c.copy_sums.result in
    let made = c.make.ensures in
    let names = c.in_ok-shape.ensures.names in
    let now = c.deref.result.now in
    let is : now ≡ arc_value c.in-Ok.value = c.deref.ensures in
    let same = c.copy_sums.ensures.value_is in
    record {
      meant = λ stable honest. of_copy copy now (λ (v : SumVal). v ≡ sum_meaning shows key) same
          (is ∙ made.meant stable honest c.in-Ok.value c.in-Ok.is);
      shaped = of_copy copy now (λ (v : SumVal). IsTrue (sum_is_shaped shows key v)) same
          (subst (λ (v : SumVal). IsTrue (sum_is_shaped shows key v)) (sym is) (made.shaped c.in-Ok.value c.in-Ok.is));
      names = of_copy copy now (λ (v : SumVal). NamesBlock node key) same names;
      fault = of_wanting copy (IsLoadFault shows node.edge key.name key.edge (λ s. SumFitsIn s.dim (channels_of s.kind) key)
          (node.gave key.name)) c.copy_sums.ensures.fault names;
      below = made.below;
      asked = where_ok copy _ (made.asked c.in-Ok.value c.in-Ok.is);
      counted = made.counted;
      parts = made.parts;
    }
