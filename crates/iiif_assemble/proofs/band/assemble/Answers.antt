use Rattle.std.proofs.Common.{◌∙◌, ap, subst}
use Rattle.std.proofs.lemmas.Result.{IfOk-weaker, IfErr-weaker}
use Rattle.iiif_pixel.specs.Geometry.{channels_of, sides_of}
use Rattle.iiif_pixel.specs.declared.geometry.Rect.{Rect}
use Rattle.iiif_keys.specs.Names.{named}
use Rattle.iiif_planner.specs.Bands.{ListsItems}
use Rattle.iiif_assemble.specs.Jobs.{IsHeldFor}
use Rattle.iiif_assemble.specs.Making.{job_of}
use Rattle.iiif_assemble.proofs.ImageLemmas.{all_rows}
use Rattle.iiif_assemble.proofs.WholeLemmas.{plan_fault}
use Rattle.iiif_assemble.proofs.band.assemble.Goals as goal

pub returns-in-Ok : goal.returns-in-Ok
returns-in-Ok g c =
    let j = job_of c.args.image.now c.args.resolved.now c.args.plan.now in
    let r = j.resolved in
    let n = channels_of j.shape.kind in
    let ops = c.whole_stays_whole.ensures in
    let band = c.in-Ok.band in
    let is = c.in-Ok.ensures.rect in
    let done = c.assemble_band.ensures in
    record {
      image = IfOk-weaker c.assemble_band.result _ _
          (λ m made shows shown.
          made shows shown ∙ all_rows c.bands_follow.ensures.all ops.crop ops.scale ops.turn ops.quality (named shows j.name) r band.rect
          shown.source.whole c.requires.may.job.quarters is)
          done.image;
      sides = IfOk-weaker c.assemble_band.result _ _ (λ m sides. sides ∙ ap sides_of is) done.sides;
      channels = done.channels;
      top = done.top;
      held = IfOk-weaker c.assemble_band.result _ _
          (λ m held. subst (λ (q : Rect). IsHeldFor (sides_of q) n c.assemble_band.new.held) is held) done.held;
      fault = IfErr-weaker c.assemble_band.result _ _
          (λ f of_band.
          (plan_fault (g.A.Items.means c.args.groups.now.tiles.now) (g.A.Items.failed c.args.groups.now.tiles.now)
          (g.B.Items.means c.args.groups.now.sums.now) (g.B.Items.failed c.args.groups.now.sums.now)
          j.name j.edge j.shape.dim n c.requires.may.job.room r j.plan band.items.items f c.requires.may.job.quarters
          c.requires.may.job.inside
          c.requires.may.job.scalable.result_columns c.requires.may.job.scalable.result_rows c.requires.may.job.is_plan
          (subst (λ (q : Rect). ListsItems r j.plan q band.items.items) is c.in-Ok.ensures.band.items)).0 of_band)
          done.fault;
    }
