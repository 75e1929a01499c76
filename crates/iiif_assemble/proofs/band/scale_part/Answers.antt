use Rattle.std.proofs.Common.{rules, ◌∙◌, ap, sym, subst}
use Rattle.std.proofs.lemmas.Result.{IfOk-weaker}
use Rattle.iiif_pixel.specs.Geometry.{channels_of}
use Rattle.iiif_pixel.specs.Operations.{crop}
use Rattle.iiif_pixel.specs.Picture.{Picture}
use Rattle.iiif_pixel.specs.Scaling.{scale}
use Rattle.iiif_planner.specs.Plans.{IsPlan}
use Rattle.iiif_planner.specs.declared.plans.Plan.{Plan}
use Rattle.iiif_assemble.proofs.band.scale_part.Goals as goal

pub returns-in-Copy : goal.returns-in-Copy
returns-in-Copy g c =
    let r = c.args.job.now.resolved.now in
    let of_plan = subst (λ (p : Plan). IsPlan c.args.job.now.name.now c.args.job.now.edge c.args.job.now.shape.dim
    (channels_of c.args.job.now.shape.kind) c.requires.job.room r p) c.in-Copy.is c.requires.job.is_plan in
    record {
      image = IfOk-weaker c.paste.result _ _
          (λ image made i shown.
          let q = crop i.1 r.rect in
          let whole = c.whole_stays_whole.ensures.crop i.1 r.rect shown.0.whole in
          let same = sym (c.same_sides_change_nothing.ensures q whole c.requires.job.scalable.columns c.requires.job.scalable.rows) ∙
          ap (scale q) (sym of_plan.0) in
          made i (shown.0, shown.1.0) ∙ ap (λ (s : Picture). crop s c.args.from) same)
          c.paste.ensures.image;
      sides = c.paste.ensures.sides;
      channels = c.paste.ensures.channels;
      top = c.paste.ensures.top;
      held = c.paste.ensures.held;
      fault = search rules;
    }

pub returns-in-Grow : goal.returns-in-Grow
returns-in-Grow g c = record {
  image = IfOk-weaker c.grow.result _ _ (λ image made i shown. made i (shown.0, shown.1.0)) c.grow.ensures.image;
  sides = c.grow.ensures.sides;
  channels = c.grow.ensures.channels;
  top = c.grow.ensures.top;
  held = c.grow.ensures.held;
  fault = search rules;
}

pub returns-in-Sum : goal.returns-in-Sum
returns-in-Sum g c = record {
  image = IfOk-weaker c.merge_sums.result _ _ (λ image made i shown. made i (shown.0, shown.1.1)) c.merge_sums.ensures.image;
  sides = c.merge_sums.ensures.sides;
  channels = c.merge_sums.ensures.channels;
  top = c.merge_sums.ensures.top;
  held = c.merge_sums.ensures.held;
  fault = search rules;
}
