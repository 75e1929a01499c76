use Rattle.std.proofs.Common.{◌∙◌, List, ap, sym, subst}
use Rattle.iiif_keys.specs.declared.keys.TileKey.{TileKey}
use Rattle.iiif_keys.specs.declared.keys.SumKey.{SumKey}
use Rattle.iiif_planner.specs.declared.plans.Plan.{Plan}
use Rattle.iiif_planner.specs.Bands.{ListsItems, block_places, grown_places, places_from, tile_places, IsPlanned}
use Rattle.iiif_planner.specs.Code.{block_met, grown_met, AreBlocks, AreTiles}
use Rattle.iiif_planner.proofs.BandLemmas.{blocks_of, lists_those, tiles_copied, tiles_grown, tiles_kept}
use Rattle.iiif_planner.proofs.banding.band_in.Goals as goal

pub tiles_in-requires-clause-tiles : goal.tiles_in-requires-clause-tiles
tiles_in-requires-clause-tiles c =
    let r = c.args.resolved.now in
    subst (λ (ks : List TileKey). AreTiles r.rect ks) (sym c.deref.ensures.value)
    (tiles_copied r c.in-Copy.keys (subst (λ (p : Plan). IsPlanned r p) c.in-Copy.is c.requires.plan))

pub tiles_in-requires-in-Grow-clause-tiles : goal.tiles_in-requires-in-Grow-clause-tiles
tiles_in-requires-in-Grow-clause-tiles c =
    let r = c.args.resolved.now in
    subst (λ (ks : List TileKey). AreTiles r.rect ks) (sym c.deref-in-Grow.ensures.value)
    (tiles_grown r c.in-Grow.keys (subst (λ (p : Plan). IsPlanned r p) c.in-Grow.is c.requires.plan))

pub blocks_in-requires-clause-blocks : goal.blocks_in-requires-clause-blocks
blocks_in-requires-clause-blocks c =
    let r = c.args.resolved.now in
    subst (λ (ks : List SumKey). AreBlocks r.rect r.size ks) (sym c.deref-in-Sum.ensures.value)
    (blocks_of r c.in-Sum.keys (subst (λ (p : Plan). IsPlanned r p) c.in-Sum.is c.requires.plan))

pub returns-in_ok-items-in-Copy-clause-items : goal.returns-in_ok-items-in-Copy-clause-items
returns-in_ok-items-in-Copy-clause-items c =
    let r = c.args.resolved.now in
    let part = c.unturn_rect-part.result in
    let items = c.in_ok-items-in-Copy.items.items in
    let of_plan = subst (λ (p : Plan). IsPlanned r p) c.in-Copy.is c.requires.plan in
    let are = c.in_ok-items-in-Copy.ensures
    ∙ ap (λ (ks : List TileKey). places_from 0 (grown_met r.rect r.size part) ks) c.deref.ensures.value
    ∙ tiles_kept r.rect r.size part c.in-Copy.keys.items of_plan.is_plan.0 (tiles_copied r c.in-Copy.keys of_plan) in
    subst (λ (p : Plan). ListsItems r p c.args.rect items) (sym c.in-Copy.is)
    (lists_those r.turn r.size (tile_places r.rect) part c.args.rect c.in-Copy.keys.items items c.unturn_rect-part.ensures.inside
    c.unturn_rect-part.ensures.same_places are)

pub returns-in_ok-items-in-Grow-clause-items : goal.returns-in_ok-items-in-Grow-clause-items
returns-in_ok-items-in-Grow-clause-items c =
    let r = c.args.resolved.now in
    let part = c.unturn_rect-part.result in
    let items = c.in_ok-items-in-Grow.items.items in
    let are = c.in_ok-items-in-Grow.ensures
    ∙ ap (λ (ks : List TileKey). places_from 0 (grown_met r.rect r.size part) ks) c.deref-in-Grow.ensures.value in
    subst (λ (p : Plan). ListsItems r p c.args.rect items) (sym c.in-Grow.is)
    (lists_those r.turn r.size (grown_places r.rect r.size) part c.args.rect c.in-Grow.keys.items items c.unturn_rect-part.ensures.inside
    c.unturn_rect-part.ensures.same_places are)

pub returns-in_ok-items-in-Sum-clause-items : goal.returns-in_ok-items-in-Sum-clause-items
returns-in_ok-items-in-Sum-clause-items c =
    let r = c.args.resolved.now in
    let part = c.unturn_rect-part.result in
    let items = c.in_ok-items-in-Sum.items.items in
    let are = c.in_ok-items-in-Sum.ensures ∙ ap (λ (ks : List SumKey). places_from 0 (block_met part) ks) c.deref-in-Sum.ensures.value in
    subst (λ (p : Plan). ListsItems r p c.args.rect items) (sym c.in-Sum.is)
    (lists_those r.turn r.size block_places part c.args.rect c.in-Sum.keys.items items c.unturn_rect-part.ensures.inside
    c.unturn_rect-part.ensures.same_places are)
