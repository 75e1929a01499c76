use Rattle.std.proofs.Common.{arith, rules, ◌≡◌, ◌∷◌, [], All, fold, map, sym, subst, Global, IsTrue}
use Rattle.std.proofs.lemmas.List.Elements.{All-get_or}
use Rattle.std.proofs.lemmas.Result.{IfOk-at_ok}
use Rattle.std.specs.Arc.{arc_value}
use Rattle.std.specs.declared.sync.Arc.{Arc}
use Rattle.iiif_pixel.specs.Geometry.{channels_of}
use Rattle.iiif_area.specs.Grid.{Grid, merged}
use Rattle.iiif_keys.specs.Blocks.{places_in}
use Rattle.iiif_keys.specs.Meaning.{no_sums, sum_is_shaped, sum_meaning, sums_below, sums_in}
use Rattle.iiif_keys.specs.declared.values.SumVal.{SumVal}
use Rattle.iiif_sum_group.specs.Values.{AreSums, AreValuesOf}
use Rattle.iiif_sum_group.proofs.SumLemmas.{all_values, only_places, only_value, wanting}
use Rattle.iiif_sum_group.proofs.making.combine_parts.Goals as goal

pub returns-then-len-eq1 : goal.returns-then-len-eq1
returns-then-len-eq1 g c =
    let shows = g.J.System.pictures in
    let s = c.args.shape.now in
    let n = channels_of s.kind in
    let key = c.args.key.now in
    let trusted : Type 0 = g.J.System.stable key.name × IsTrue g.J.System.honest in
    let exact = c.parts_are_exact.ensures in
    let only : Arc SumVal Global = c.into_only.result in
    let had : AreValuesOf shows s trusted (sums_below key) (only ∷ []) =
    subst (AreValuesOf shows s trusted (sums_below key)) c.into_only.ensures c.requires.values_are in
    let P : Arc SumVal Global → Type 0 = λ v. (sums_in v).channels ≡ n in
    let rect = only_places exact.cut exact.fit exact.below s.dim n key only c.requires.level c.requires.fits had.places in
    let channels : P only = All-get_or P (only ∷ []) 0 only (omega arith) had.channels in
    let shaped = (c.laws.ensures.shapes shows s key (arc_value only) c.requires.known).1 (record { places = rect; sums_a_place = channels })
    in
    record {
      meant = λ stable honest x e. IfOk-at_ok (λ (v : Arc SumVal Global). arc_value v ≡ sum_meaning shows key) e
          (only_value exact.cut exact.fit exact.below shows key s only c.requires.known c.requires.level c.requires.fits had.places
          (had.meant (stable, honest)));
      shaped = λ x e. IfOk-at_ok (λ (v : Arc SumVal Global). IsTrue (sum_is_shaped shows key (arc_value v))) e shaped;
      given = search rules;
    }

pub total-requires : goal.total-requires
total-requires g c =
    let P : Arc SumVal Global → Type 0 = λ x. (sums_in x).channels ≡ channels_of c.args.shape.now.kind in
    record { block = search rules; channels = subst (All P) (sym c.deref.ensures.value) c.requires.values_are.channels }

pub returns : goal.returns
returns g c =
    let shows = g.J.System.pictures in
    let s = c.args.shape.now in
    let key = c.args.key.now in
    let values = c.deref.result.now in
    let start : Grid = no_sums s.dim (channels_of s.kind) key in
    record {
      meant = λ stable honest x e.
          let are : AreSums shows (sums_below key) values =
          subst (AreSums shows (sums_below key)) (sym c.deref.ensures.value) (c.requires.values_are.meant (stable, honest)) in
          let sums = IfOk-at_ok (λ (v : SumVal). v.sums ≡ fold merged start (map sums_in values)) (c.share_result.ensures.ok x e)
          c.total.ensures.sums in
          all_values c.parts_make_the_meaning.ensures shows key s (arc_value x) values c.requires.known c.requires.source c.requires.fits
          c.requires.level are sums;
      shaped = λ x e.
          let places = IfOk-at_ok (λ (v : SumVal). (v.sums.rect ≡ places_in s.dim key) × (v.sums.channels ≡ channels_of s.kind))
          (c.share_result.ensures.ok x e) c.total.ensures.places in
          (c.laws.ensures.shapes shows s key (arc_value x) c.requires.known).1
          (record { places = places.0; sums_a_place = places.1 });
      given = λ f e. wanting (g.J.System.gave key.name) c.total.result f c.total.ensures.fault (c.share_result.ensures.err f e);
    }
