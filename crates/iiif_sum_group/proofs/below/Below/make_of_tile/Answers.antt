use Rattle.std.proofs.Common.{◌∙◌, arith, rules, ap, refl, subst, sym}
use Rattle.std.specs.Arc.{arc_value}
use Rattle.std.specs.Prelude.{IsTrue}
use Rattle.iiif_keys.specs.Meaning.{tile_below, tile_is_shaped, tile_meaning, TileHasShape}
use Rattle.iiif_keys.specs.Names.{named}
use Rattle.iiif_keys.specs.declared.keys.Shape.{Shape}
use Rattle.iiif_keys.specs.declared.keys.TileKey.{TileKey}
use Rattle.iiif_keys.specs.declared.values.TileVal.{TileVal}
use Rattle.iiif_sum_group.proofs.CountLemmas.{below_of_tile}
use Rattle.iiif_sum_group.proofs.below.Below.make_of_tile.Goals as goal

pub of_tile-requires-clause-tile : goal.of_tile-requires-clause-tile
of_tile-requires-clause-tile g c =
    let shows = g.J.System.pictures in
    let s = c.args.shape.now in
    let below = tile_below c.args.key.now in
    let value = arc_value c.in_ok-value.value in
    let shaped = subst (λ (t : TileKey). IsTrue (tile_is_shaped shows t value)) c.requires.tile_is
    (c.in_ok-value.ensures.shaped c.in_ok-value.value refl) in
    subst (λ (v : TileVal). TileHasShape s below v) (sym c.deref.ensures)
    ((c.laws.ensures.shapes shows s below value c.requires.known).0 shaped)

pub returns-in-Ok-of_tile : goal.returns-in-Ok-of_tile
returns-in-Ok-of_tile g c =
    let shows = g.J.System.pictures in
    let known = c.requires.known in
    record {
      meant = λ stable honest.
          let at_tile = subst (λ (t : TileKey). g.J.System.stable t.name) (sym c.requires.tile_is) stable in
          let meant = c.in_ok-value.ensures.meant at_tile honest c.in_ok-value.value refl in
          c.in-Ok-of_tile.ensures.meaning shows (named shows c.args.key.now.name) known.known (ap (λ (s : Shape). s.dim) known.shape)
          (c.deref.ensures ∙ meant ∙ ap (λ (t : TileKey). tile_meaning shows t) c.requires.tile_is);
      shaped = (c.laws-2.ensures.shapes shows c.args.shape.now c.args.key.now c.in-Ok-of_tile.sums c.requires.known).1
          c.in-Ok-of_tile.ensures.shape;
      given = tt;
      below = below_of_tile _ _ _ c.requires.level refl refl c.in-Ok.ensures.counted.1;
      asked = record { tile = λ level. c.in-Ok.ensures.counted.0; quarters = λ above. absurd (omega (arith, above, c.requires.level)) };
      counted = search rules;
      parts = search rules;
    }
