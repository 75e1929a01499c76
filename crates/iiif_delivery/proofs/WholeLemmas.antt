-- A band that has all rows of an image.
use Rattle.std.proofs.Common.{◌≡◌, ◌∙◌, ℕ, Result, ap, sym, subst}
use Rattle.std.proofs.lemmas.Result.{IfErr-weaker, IfOk-weaker}
use Rattle.iiif_pixel.specs.Geometry.{channels_of, sides_of}
use Rattle.iiif_pixel.specs.Operations.{crop}
use Rattle.iiif_pixel.specs.Picture.{Picture}
use Rattle.iiif_pixel.specs.Scaling.{whole_of}
use Rattle.iiif_pixel.specs.declared.geometry.Rect.{Rect}
use Rattle.iiif_keys.specs.Names.{named}
use Rattle.iiif_keys.specs.declared.fault.Fault.{Fault}
use Rattle.iiif_keys.specs.declared.keys.SumKey.{SumKey}
use Rattle.iiif_keys.specs.declared.keys.TileKey.{TileKey}
use Rattle.iiif_keys.specs.declared.values.SumVal.{SumVal}
use Rattle.iiif_keys.specs.declared.values.TileVal.{TileVal}
use Rattle.iiif_planner.specs.Bands.{ListsItems}
use Rattle.iiif_planner.specs.declared.banding.Band.{Band}
use Rattle.iiif_assemble.specs.Faults.{IsBandFault, IsPlanFault}
use Rattle.iiif_assemble.specs.Jobs.{IsBandOf, IsHeldFor, IsJob}
use Rattle.iiif_assemble.specs.Making.{MakesShown}
use Rattle.iiif_assemble.specs.declared.job.Job.{Job}
use Rattle.iiif_assemble.proofs.ImageLemmas.{all_rows}
use Rattle.iiif_assemble.proofs.WholeLemmas.{plan_fault}
use Rattle.iiif_delivery.specs.Code.{Laws}
use Rattle.iiif_delivery.specs.Delivery.{result_dim}

-- the image is made as that band
pub whole_band : (laws : Laws) (tile : TileKey → TileVal → Type 0) (tile_failed : TileKey → Fault → Type 0)
    (sum : SumKey → SumVal → Type 0) (sum_failed : SumKey → Fault → Type 0) (j : Job) (b : Band) (held : ℕ)
    (result : Result Picture Fault) →
    IsJob j → IsBandOf j b → b.rect ≡ whole_of (result_dim j) →
    MakesShown (λ (p : Picture). p) (λ p. held) j tile sum (λ p. p) (result_dim j) (IsPlanFault tile tile_failed sum sum_failed j.plan)
    result →
    MakesShown (λ (p : Picture). p) (λ p. held) j tile sum (λ p. crop p b.rect) (sides_of b.rect)
    (IsBandFault tile tile_failed sum sum_failed j.plan b.items.items) result
whole_band laws tile tile_failed sum sum_failed j b held result job band is made =
    let r = j.resolved in
    let n = channels_of j.shape.kind in
    record {
      image = IfOk-weaker result _ _
          (λ m same shows shown.
          same shows shown ∙ sym (all_rows laws.rows laws.crops laws.scales laws.turns laws.qualities (named shows j.name) r b.rect
          shown.source.whole job.quarters is))
          made.image;
      sides = IfOk-weaker result _ _ (λ m same. same ∙ sym (ap sides_of is)) made.sides;
      channels = made.channels;
      top = made.top;
      held = IfOk-weaker result _ _ (λ m h. subst (λ (q : Rect). IsHeldFor (sides_of q) n held) (sym is) h) made.held;
      fault = IfErr-weaker result _ _
          (λ f of_plan.
          (plan_fault tile tile_failed sum sum_failed j.name j.edge j.shape.dim n job.room r j.plan b.items.items f job.quarters job.inside
          job.scalable.result_columns job.scalable.result_rows job.is_plan
          (subst (λ (q : Rect). ListsItems r j.plan q b.items.items) is band.items)).1 of_plan)
          made.fault;
    }
