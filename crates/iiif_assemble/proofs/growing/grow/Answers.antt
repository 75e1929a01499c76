use Rattle.std.proofs.Common.{rules, ◌≡◌, ◌∙◌, ℕ, [], ap, get_or, map, refl, sym, subst}
use Rattle.std.specs.Arc.{arc_value}
use Rattle.std.proofs.lemmas.List.Elements.{All-weaker}
use Rattle.iiif_pixel.specs.Geometry.{channels_of, top_of, LiesIn}
use Rattle.iiif_pixel.specs.Operations.{crop}
use Rattle.iiif_pixel.specs.Picture.{dim_of}
use Rattle.iiif_pixel.specs.Scaling.{scale, whole_of}
use Rattle.iiif_pixel.specs.declared.geometry.Dim.{Dim}
use Rattle.iiif_pixel.specs.declared.geometry.Rect.{Rect}
use Rattle.iiif_area.specs.Grid.{Grid, finished, sums_at}
use Rattle.iiif_area.proofs.FinishLaws.{finished-scaled}
use Rattle.iiif_area.proofs.WholeTile.{inside_itself}
use Rattle.iiif_keys.specs.Blocks.{tile_of}
use Rattle.iiif_keys.specs.Meaning.{TileHasShape}
use Rattle.iiif_keys.specs.declared.keys.TileKey.{TileKey}
use Rattle.iiif_keys.specs.declared.values.TileVal.{TileVal}
use Rattle.iiif_planner.specs.Plans.{IsTileFor}
use Rattle.iiif_planner.specs.Bands.{grown_places}
use Rattle.iiif_planner.proofs.ItemLaws.{places_are}
use Rattle.iiif_assemble.specs.Code.{tile_adds, tile_in, TileHasPart}
use Rattle.iiif_assemble.proofs.GrowLemmas.{grown_total, grown_is}
use Rattle.iiif_assemble.proofs.SumLemmas.{tile_meant}
use Rattle.iiif_assemble.proofs.ZipLemmas.{lists_within, values_weaker}
use Rattle.iiif_assemble.proofs.growing.grow.Goals as goal

pub gather-requires-clause-within : goal.gather-requires-clause-within
gather-requires-clause-within g c κs within =
    lists_within (grown_places c.args.job.now.resolved.now.rect c.args.job.now.resolved.now.size) c.args.from c.args.keys.now
    c.args.items.now
    c.requires.lists

pub add_all-requires-clause-parts : goal.add_all-requires-clause-parts
add_all-requires-clause-parts g c =
    let shape = c.args.job.now.shape in
    let region = c.args.job.now.resolved.now.rect in
    let planned = IsTileFor c.args.job.now.name.now c.args.job.now.edge shape.dim (channels_of shape.kind) region in
    All-weaker planned (TileHasPart shape region) (λ k b. record { fits = b.fits; meets = b.meets }) c.args.keys.now c.requires.cover.tiles

pub add_all-requires-clause-within : goal.add_all-requires-clause-within
add_all-requires-clause-within g c =
    lists_within (grown_places c.args.job.now.resolved.now.rect c.args.job.now.resolved.now.size) c.args.from c.args.keys.now
    c.args.items.now
    c.requires.lists

pub add_all-requires-clause-shaped : goal.add_all-requires-clause-shaped
add_all-requires-clause-shaped g c =
    let image = c.args.job.now.shape.dim in
    let channels = channels_of c.args.job.now.shape.kind in
    let means = g.A.Items.means c.args.context.now.tiles.now in
    let shape : TileKey → TileVal → Type 0 = λ k v. TileHasShape c.args.job.now.shape k v in
    let planned = IsTileFor c.args.job.now.name.now c.args.job.now.edge image channels c.args.job.now.resolved.now.rect in
    let each = All-weaker planned (λ (k : TileKey). (v : TileVal) → means k v → shape k v) (λ k b v m. c.requires.serves.shaped k v b m)
    c.args.keys.now c.requires.cover.tiles in
    let all = values_weaker means shape c.args.keys.now c.args.items.now (map arc_value c.in_ok-values.values.items)
    c.in_ok-values.ensures.values each in
    rw (← c.deref.ensures.value) at all

pub returns-in-Ok-finish_all : goal.returns-in-Ok-finish_all
returns-in-Ok-finish_all g c =
    let region = c.args.job.now.resolved.now.rect in
    let size = c.args.job.now.resolved.now.size in
    let image = c.args.job.now.shape.dim in
    let channels = channels_of c.args.job.now.shape.kind in
    let keys = c.args.keys.now in
    let items = c.args.items.now in
    let means = g.A.Items.means c.args.context.now.tiles.now in
    record {
      image = λ i shown.
          let shows = i.0 in
          let p = i.1 in
          let q = crop p region in
          let whole = c.whole_stays_whole.ensures.crop p region shown.0.whole in
          let x : TileKey = record { name = []; edge = 0; tx = 0; ty = 0 } in
          let planned = IsTileFor c.args.job.now.name.now c.args.job.now.edge image channels region in
          let is_tile : TileKey → TileVal → Type 0 = λ k v. tile_in v ≡ crop p (tile_of image k) in
          let each = All-weaker planned (λ (k : TileKey). (v : TileVal) → means k v → is_tile k v)
          (λ k b v m. tile_meant shows c.args.job.now.name.now p image k v shown.0.known shown.0.sides b.named (shown.1 k v b.named m)) keys
          c.requires.cover.tiles in
          let meant = values_weaker means is_tile keys items (map arc_value c.in_ok-values.values.items) c.in_ok-values.ensures.values
          each in
          let meant_here = rw (← c.deref.ensures.value) at meant in
          let merged = grown_total c.merging_adds.ensures.all (places_are TileKey) image region q size c.args.from keys items x whole
          c.requires.job.scalable refl c.requires.job.inside
          c.requires.cover.cut c.requires.lists in
          let new = c.add_all.new.total in
          let total = grown_is c.args.from channels q size c.in-Ok.total new
          (map (λ i. tile_adds p image region size (get_or keys i x)) items)
          c.in-Ok.ensures shown.0.samples_a_place
          (c.add_all.ensures.sums p x meant_here) c.add_all.ensures.rect merged in
          let top = top_of c.args.job.now.shape.depth in
          let sums = sums_at new.rect q size (whole_of (dim_of q)) in
          let rect : new.rect ≡ c.args.from = c.add_all.ensures.rect ∙ ap (λ (t : Grid). t.rect) c.in-Ok.ensures in
          let inside = subst (λ (r : Rect). LiesIn r size) (sym rect) c.requires.inside in
          c.in-Ok-finish_all.ensures
          ∙ ap (λ (d : Dim). finished new d top new.rect) c.dim.ensures
          ∙ ap (λ (t : Grid). finished t (dim_of q) top new.rect) total
          ∙ ap (λ (n : ℕ). finished sums (dim_of q) n new.rect) (sym shown.0.depth)
          ∙ finished-scaled new.rect new.rect q size whole (inside_itself new.rect new.rect refl) inside
          ∙ ap (λ (r : Rect). crop (scale q size) r) rect;
      sides = search rules;
      channels = search rules;
      top = search rules;
      held = search rules;
      fault = tt;
    }
