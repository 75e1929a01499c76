use Rattle.std.proofs.Common.{◌≡◌, ◌∙◌, inl, List, All, ap, map, refl, sym, subst}
use Rattle.std.specs.Arc.{arc_value}
use Rattle.std.proofs.lemmas.List.Elements.{All-weaker}
use Rattle.std.proofs.lemmas.Result.{IfErr-weaker, IfOk-weaker}
use Rattle.iiif_pixel.specs.Geometry.{channels_of, sides_of, top_of}
use Rattle.iiif_pixel.specs.Operations.{crop}
use Rattle.iiif_pixel.specs.Picture.{Picture, dim_of}
use Rattle.iiif_keys.specs.Blocks.{part_in}
use Rattle.iiif_keys.specs.declared.keys.SumKey.{SumKey}
use Rattle.iiif_keys.specs.declared.values.SumVal.{SumVal}
use Rattle.iiif_area.specs.Grid.{finished, sums_of}
use Rattle.iiif_planner.specs.Plans.{IsBlockFor}
use Rattle.iiif_planner.specs.Bands.{block_places}
use Rattle.iiif_planner.proofs.ItemLaws.{places_are}
use Rattle.iiif_assemble.specs.Code.{sums_in, total_of}
use Rattle.iiif_assemble.specs.declared.job.Made.{Made}
use Rattle.iiif_assemble.proofs.ZipLemmas.{all_mapped, each_value, lists_within}
use Rattle.iiif_assemble.proofs.SumLemmas.{band_total, block_meant, total_finished, IsFor}
use Rattle.iiif_assemble.proofs.merging.merge_sums.Goals as goal

pub gather-requires-clause-within : goal.gather-requires-clause-within
gather-requires-clause-within g c κs within = lists_within block_places c.args.from c.args.keys.now c.args.items.now c.requires.lists

pub gather-requires-clause-fits : goal.gather-requires-clause-fits
gather-requires-clause-fits g c κs within =
    let planned = IsBlockFor c.args.job.now.name.now c.args.job.now.edge c.args.job.now.shape.dim (channels_of c.args.job.now.shape.kind)
    c.args.job.now.resolved.now.rect c.args.job.now.resolved.now.size c.requires.cover.0 in
    All-weaker planned (g.B.Items.fits c.args.context.now.sums.now) (λ k b. (c.requires.serves c.requires.cover.0).asked k b)
    c.args.keys.now c.requires.cover.1.blocks

pub made_of-requires-clause-channels : goal.made_of-requires-clause-channels
made_of-requires-clause-channels g c κs within =
    let channels = channels_of c.args.job.now.shape.kind in
    let means = g.B.Items.means c.args.context.now.sums.now in
    let P : SumVal → Type 0 = λ v. (sums_in v).channels ≡ channels in
    let planned = IsBlockFor c.args.job.now.name.now c.args.job.now.edge c.args.job.now.shape.dim channels c.args.job.now.resolved.now.rect
    c.args.job.now.resolved.now.size c.requires.cover.0 in
    let each = All-weaker planned (λ (k : SumKey). (v : SumVal) → means k v → P v)
    (λ k b v m. ((c.requires.serves c.requires.cover.0).shaped k v b m).sums_a_place) c.args.keys.now c.requires.cover.1.blocks in
    let all = each_value P means c.args.keys.now c.args.items.now (map arc_value c.in_ok-values.values.items) c.in_ok-values.ensures.values
    each in
    subst (All (λ v. P (arc_value v))) (sym c.deref.ensures.value) (all_mapped arc_value P c.in_ok-values.values.items all)

pub returns : goal.returns
returns g c =
    let region = c.args.job.now.resolved.now.rect in
    let size = c.args.job.now.resolved.now.size in
    let image = c.args.job.now.shape.dim in
    let channels = channels_of c.args.job.now.shape.kind in
    let top = top_of c.args.job.now.shape.depth in
    let from = c.args.from in
    let keys = c.args.keys.now in
    let means = g.B.Items.means c.args.context.now.sums.now in
    let values = map arc_value c.in_ok-values.values.items in
    let planned = IsBlockFor c.args.job.now.name.now c.args.job.now.edge image channels region size c.requires.cover.0 in
    let each = All-weaker planned (IsFor region size) (λ k b. record { rect = b.of_region; to_size = b.to_size }) keys
    c.requires.cover.1.blocks in
    let total : List SumVal → Picture = λ vs. finished (total_of from channels vs) (sides_of region) top from in
    let FromTotal : Made → Type 0 = λ m. m.raster ≡ total (map arc_value c.deref.result.now) in
    record {
      image = IfOk-weaker c.made_of.result FromTotal _ (λ m made i shown.
          let shows = i.0 in
          let p = i.1 in
          let q = crop p region in
          let whole = c.whole_stays_whole.ensures.crop p region shown.0.whole in
          let meant = All-weaker planned (λ (k : SumKey). (v : SumVal) → means k v → sums_in v ≡ sums_of q size (part_in image k))
          (λ k b v h. block_meant shows c.args.job.now.name.now p image region size k v shown.0.known shown.0.sides b.named
          (record { rect = b.of_region; to_size = b.to_size }) (shown.1 k v b.named h))
          keys c.requires.cover.1.blocks in
          let merged = band_total c.merging_adds.ensures.all (places_are SumKey) image region q size from keys c.args.items.now values
          means whole
          c.requires.job.scalable refl c.requires.job.inside each c.requires.cover.1.cut c.requires.lists c.in_ok-values.ensures.values
          meant in
          made
          ∙ ap (λ vs. total (map arc_value vs)) c.deref.ensures.value
          ∙ total_finished from q size channels top values whole c.requires.inside shown.0.samples_a_place shown.0.depth merged)
          c.made_of.ensures.image;
      sides = IfOk-weaker c.made_of.result FromTotal _ (λ m made. ap dim_of made) c.made_of.ensures.image;
      channels = c.made_of.ensures.channels;
      top = IfOk-weaker c.made_of.result FromTotal _ (λ m made. ap (λ (p : Picture). p.top) made) c.made_of.ensures.image;
      held = c.made_of.ensures.held;
      fault = IfErr-weaker c.made_of.result _ _ (λ f none. inl none) c.made_of.ensures.fault;
    }
