use Rattle.std.proofs.Common.{List, All, ◌<◌, length, subst, sym}
use Rattle.std.proofs.lemmas.List.Elements.{All-weaker}
use Rattle.iiif_pixel.specs.Geometry.{channels_of}
use Rattle.iiif_keys.specs.declared.keys.SumKey.{SumKey}
use Rattle.iiif_planner.specs.Plans.{IsBlockFor, IsPlan}
use Rattle.iiif_planner.specs.declared.plans.Plan.{Plan}
use Rattle.iiif_planner.specs.Bands.{ListsItems}
use Rattle.iiif_assemble.proofs.ZipLemmas.{passed_within}
use Rattle.iiif_assemble.proofs.KeptLemmas.{all_keep, each_kept, some_kept}
use Rattle.iiif_assemble.proofs.kept.keep_band.Goals as goal

pub gather_kept-requires-clause-within : goal.gather_kept-requires-clause-within
gather_kept-requires-clause-within g c κs within =
    let b = c.args.band.now in
    let lists = subst (λ (p : Plan). ListsItems c.args.job.now.resolved p b.rect b.items.items) c.in-Sum.is c.requires.band.items in
    subst (λ (ks : List SumKey). All (λ i. i < length ks) c.as_slice-items.result.now) (sym c.deref-4.ensures.value)
    (subst (All (λ i. i < length c.in-Sum.keys.items)) (sym c.as_slice-items.ensures.value)
    (passed_within lists.0 c.in-Sum.keys.items b.items.items lists.2))

pub gather_kept-requires-clause-fits : goal.gather_kept-requires-clause-fits
gather_kept-requires-clause-fits g c κs within =
    let j = c.args.job.now in
    let fits = g.B.Items.fits c.args.context.now.sums.now in
    let of_plan = subst (λ (p : Plan). IsPlan j.name j.edge j.shape.dim (channels_of j.shape.kind) c.requires.job.room j.resolved p)
    c.in-Sum.is c.requires.job.is_plan in
    let level = of_plan.1 in
    let planned = IsBlockFor j.name j.edge j.shape.dim (channels_of j.shape.kind) j.resolved.rect j.resolved.size level in
    subst (λ (ks : List SumKey). All fits ks) (sym c.deref-4.ensures.value)
    (All-weaker planned fits (λ k b. (c.requires.sums level).asked k b) c.in-Sum.keys.items of_plan.3.blocks)

pub returns-then-has_all-clause-few : goal.returns-then-has_all-clause-few
returns-then-has_all-clause-few g c =
    all_keep c.args.job.now.plan c.in-Sum.keys c.deref-2.result.now c.args.band.now.items.items c.as_slice-items.result.now
    c.args.kept.now.items c.deref.result.now c.in-Sum.is c.deref-2.ensures.value c.as_slice-items.ensures.value c.deref.ensures.value
    (c.has_all.ensures c.if-has_all.true)

pub returns-then-items-gt-MOST-clause-few : goal.returns-then-items-gt-MOST-clause-few
returns-then-items-gt-MOST-clause-few g c =
    some_kept c.args.job.now.plan c.in-Sum.keys c.deref-3.result.now c.args.band.now.items.items c.as_slice-items.result.now
    c.args.kept.now.items c.as_slice.result.now c.in-Ok.own.items c.in-Sum.is c.deref-3.ensures.value c.as_slice-items.ensures.value
    c.as_slice.ensures.value c.if-items-gt-MOST.true c.in-Ok.ensures.few.0 c.in-Ok.ensures.few.1

pub returns-clause-few : goal.returns-clause-few
returns-clause-few g c =
    each_kept c.args.job.now.plan c.in-Sum.keys c.deref-4.result.now c.args.band.now.items.items c.as_slice-items.result.now
    c.args.kept.now.items c.in_ok-kept.field-0.items c.in-Sum.is c.deref-4.ensures.value c.as_slice-items.ensures.value
    c.if-items-gt-MOST.false c.in_ok-kept.ensures.few
