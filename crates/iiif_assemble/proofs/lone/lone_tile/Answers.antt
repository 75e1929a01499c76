use Rattle.std.proofs.Common.{rules, ◌≡◌, ◌<◌, ◌∙◌, ◌++◌, ◌∷◌, [], ℕ, List, All, length, get_or, inr, sym, subst, ap, arith}
use Rattle.std.specs.Option.{option_to_list}
use Rattle.std.specs.Arc.{arc_value}
use Rattle.iiif_pixel.specs.Geometry.{channels_of}
use Rattle.iiif_keys.specs.declared.keys.TileKey.{TileKey}
use Rattle.iiif_planner.specs.Plans.{IsPlan, IsTileFor}
use Rattle.iiif_planner.specs.declared.plans.Plan.{Plan}
use Rattle.iiif_planner.specs.Bands.{tile_places, ListsItems, ReachesInto}
use Rattle.iiif_assemble.specs.Gathering.{IsItemFault}
use Rattle.iiif_assemble.specs.Lone.{IsCopyOf, IsTileItself, IsTilesFault}
use Rattle.iiif_assemble.proofs.TileLemmas.{last_value, one_key, those_within, tile_image}
use Rattle.iiif_assemble.proofs.lone.lone_tile.Goals as goal

pub gather-requires-clause-within : goal.gather-requires-clause-within
gather-requires-clause-within g c κs within =
    let j = c.args.job.now in
    let band = c.in-Ok.band in
    let keys = c.in-Copy.keys.items in
    let P : TileKey → Type 0 = λ k. ReachesInto j.resolved.turn j.resolved.size (tile_places j.resolved.rect k) band.rect in
    let lists = subst (λ (p : Plan). ListsItems j.resolved p band.rect band.items.items) c.in-Copy.is c.in-Ok.ensures.band.items in
    let all : All (λ i. i < length keys) band.items.items = those_within P keys band.items.items lists in
    let all_items = subst (λ (js : List ℕ). All (λ i. i < length keys) js) (sym c.deref-2.ensures.value) all in
    subst (λ (ks : List TileKey). All (λ i. i < length ks) c.deref-2.result.now) (sym c.deref.ensures.value) all_items

pub returns-in-Some-clause-image : goal.returns-in-Some-clause-image
returns-in-Some-clause-image g c =
    let j = c.args.job.now in
    let tm = g.A.Items.means c.args.tiles.now in
    let keys = c.deref.result.now in
    let key = c.index.result.now in
    let channels = channels_of j.shape.kind in
    let one : length keys ≡ 1 = search rules in
    let first : get_or keys 0 key ≡ key = search rules in
    let itself : IsTileItself j key = search rules in
    let planned = subst (λ (p : Plan). IsPlan j.name j.edge j.shape.dim channels c.requires.job.room j.resolved p) c.in-Copy.is
    c.requires.job.is_plan in
    let tiles = subst (λ (ks : List TileKey). All (IsTileFor j.name j.edge j.shape.dim channels j.resolved.rect) ks)
    (sym c.deref.ensures.value) planned.1.tiles in
    let of_key : IsTileFor j.name j.edge j.shape.dim channels j.resolved.rect key =
    subst (IsTileFor j.name j.edge j.shape.dim channels j.resolved.rect) first (tiles 0 key (omega (arith, one))) in
    let a = c.in-Some.value in
    let last : c.in-Ok-gather.values.items ≡ c.pop.new.self.items ++ a ∷ [] = c.pop.ensures.items ∙
    ap (λ o. c.pop.new.self.items ++ option_to_list o) c.in-Some.is in
    let meant = last_value arc_value tm keys c.deref-2.result.now c.in-Ok-gather.values.items c.pop.new.self.items key a one first
    c.in-Ok-gather.ensures.values last in
    tile_image c.whole_stays_whole.ensures.crop c.same_sides_change_nothing.ensures j tm key (arc_value a) c.requires.job itself planned.0
    of_key.named
    (c.requires.tiles.shaped key (arc_value a) of_key meant) meant

pub returns-in-Some-clause-itself : goal.returns-in-Some-clause-itself
returns-in-Some-clause-itself g c =
    let j = c.args.job.now in
    let keys = c.deref.result.now in
    let key = c.index.result.now in
    let one : length keys ≡ 1 = search rules in
    let first : get_or keys 0 key ≡ key = search rules in
    let itself : IsTileItself j key = search rules in
    let are = sym c.deref.ensures.value ∙ one_key keys key one first in
    (key, subst (λ (p : Plan). IsCopyOf p key) (sym c.in-Copy.is) are, itself)

pub returns-clause-fault : goal.returns-clause-fault
returns-clause-fault g c =
    let j = c.args.job.now in
    let band = c.in-Ok.band in
    let tm = g.A.Items.means c.args.tiles.now in
    let tf = g.A.Items.failed c.args.tiles.now in
    let over_keys = subst (λ (ks : List TileKey). IsItemFault tm tf ks c.deref-2.result.now c.in-Err.fault) c.deref.ensures.value
    c.in-Err.ensures.fault in
    let of_items = subst (λ (js : List ℕ). IsItemFault tm tf c.in-Copy.keys.items js c.in-Err.fault) c.deref-2.ensures.value over_keys in
    inr (
      band,
      c.in-Ok.ensures.rect,
      c.in-Ok.ensures.band,
      subst (λ (p : Plan). IsTilesFault tm tf p band c.in-Err.fault) (sym c.in-Copy.is) of_items,
    )
