use Rattle.std.proofs.Common.{rules, ◌≡◌, ◌∙◌, [], get_or, ap, map, sym, subst}
use Rattle.std.specs.Arc.{arc_value}
use Rattle.std.proofs.lemmas.List.Elements.{All-weaker}
use Rattle.iiif_pixel.specs.Geometry.{channels_of, nested, sides_of}
use Rattle.iiif_pixel.specs.Operations.{crop}
use Rattle.iiif_pixel.specs.Picture.{dim_of}
use Rattle.iiif_pixel.specs.Scaling.{whole_of}
use Rattle.iiif_pixel.specs.declared.geometry.Dim.{Dim}
use Rattle.iiif_area.specs.Laws.{IsCutInto}
use Rattle.iiif_area.specs.Places.{part_of}
use Rattle.iiif_keys.specs.Blocks.{tile_of}
use Rattle.iiif_keys.specs.Meaning.{TileHasShape}
use Rattle.iiif_keys.specs.declared.keys.TileKey.{TileKey}
use Rattle.iiif_keys.specs.declared.values.TileVal.{TileVal}
use Rattle.iiif_planner.specs.Plans.{IsTileFor}
use Rattle.iiif_planner.specs.Bands.{tile_places}
use Rattle.iiif_planner.proofs.ItemLaws.{places_are}
use Rattle.iiif_assemble.specs.Code.{tile_in}
use Rattle.iiif_assemble.proofs.CutLemmas.{items_cut}
use Rattle.iiif_assemble.proofs.PasteLemmas.{copied_all}
use Rattle.iiif_assemble.proofs.SumLemmas.{tile_meant}
use Rattle.iiif_assemble.proofs.ZipLemmas.{lists_within, values_weaker}
use Rattle.iiif_assemble.proofs.pasting.paste.Goals as goal

pub gather-requires-clause-within : goal.gather-requires-clause-within
gather-requires-clause-within g c κs within =
    lists_within (tile_places c.args.job.now.resolved.now.rect) c.args.from c.args.keys.now c.args.items.now c.requires.lists

pub picture_of-requires-clause-within : goal.picture_of-requires-clause-within
picture_of-requires-clause-within g c = lists_within (tile_places c.args.job.now.resolved.now.rect) c.args.from c.args.keys.now
    c.args.items.now
    c.requires.lists

pub picture_of-requires-clause-shaped : goal.picture_of-requires-clause-shaped
picture_of-requires-clause-shaped g c =
    let image = c.args.job.now.shape.dim in
    let channels = channels_of c.args.job.now.shape.kind in
    let means = g.A.Items.means c.args.context.now.tiles.now in
    let shape : TileKey → TileVal → Type 0 = λ k v. TileHasShape c.args.job.now.shape k v in
    let planned = IsTileFor c.args.job.now.name.now c.args.job.now.edge image channels c.args.job.now.resolved.now.rect in
    let each = All-weaker planned (λ (k : TileKey). (v : TileVal) → means k v → shape k v) (λ k b v m. c.requires.serves.shaped k v b m)
    c.args.keys.now c.requires.cover.tiles in
    let all = values_weaker means shape c.args.keys.now c.args.items.now (map arc_value c.in_ok-values.values.items)
    c.in_ok-values.ensures.values each in
    rw (← c.deref.ensures.value) at all

pub returns : goal.returns
returns g c =
    let image = c.args.job.now.shape.dim in
    let channels = channels_of c.args.job.now.shape.kind in
    let region = c.args.job.now.resolved.now.rect in
    let from = c.args.from in
    let keys = c.args.keys.now in
    let items = c.args.items.now in
    let part = nested region from in
    let means = g.A.Items.means c.args.context.now.tiles.now in
    let picture = c.in_ok-raster.raster in
    let x : TileKey = record { name = []; edge = 0; tx = 0; ty = 0 } in
    let planned = IsTileFor c.args.job.now.name.now c.args.job.now.edge image channels region in
    record {
      image = λ i shown.
          let shows = i.0 in
          let p = i.1 in
          let is_tile : TileKey → TileVal → Type 0 = λ k v. tile_in v ≡ crop p (tile_of image k) in
          let each = All-weaker planned (λ (k : TileKey). (v : TileVal) → means k v → is_tile k v)
          (λ k b v m. tile_meant shows c.args.job.now.name.now p image k v shown.0.known shown.0.sides b.named (shown.1 k v b.named m)) keys
          c.requires.cover.tiles in
          let meant = values_weaker means is_tile keys items (map arc_value c.in_ok-values.values.items) c.in_ok-values.ensures.values
          each in
          let meant_here = rw (← c.deref.ensures.value) at meant in
          let copied = c.in_ok-raster.ensures.copies p x shown.0.samples_a_place meant_here in
          let cut = items_cut (places_are TileKey) image region from keys items x c.requires.job.inside c.requires.inside
          c.requires.cover.cut
          c.requires.lists in
          let sides : dim_of picture ≡ sides_of part = c.in_ok-raster.ensures.sides in
          let cut_here = subst (λ (d : Dim). IsCutInto (whole_of d) (map (λ i. part_of (tile_of image (get_or keys i x)) part) items))
          (sym sides)
          cut in
          copied_all (crop p part) picture (map (λ i. part_of (tile_of image (get_or keys i x)) part) items) copied cut_here
          c.is_whole.ensures.whole
          (c.whole_stays_whole.ensures.crop p part shown.0.whole) (ap (λ (d : Dim). d.w) sides) (ap (λ (d : Dim). d.h) sides)
          (c.in_ok-raster.ensures.channels ∙ sym shown.0.samples_a_place) (c.in_ok-raster.ensures.top ∙ sym shown.0.depth)
          ∙ sym (c.crop_of_crop.ensures p region from c.requires.inside);
      sides = search rules;
      channels = search rules;
      top = search rules;
      held = search rules;
      fault = tt;
    }
