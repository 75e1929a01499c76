-- The bands of a job.
use Rattle.std.proofs.Common.{ℕ, ◌<◌, sym, subst, arith}
use Rattle.std.specs.Int.{div_ceil}
use Rattle.iiif_pixel.specs.Geometry.{LiesIn}
use Rattle.iiif_pixel.specs.TurnPlaces.{turned_dim}
use Rattle.iiif_pixel.specs.declared.geometry.Rect.{Rect}
use Rattle.iiif_planner.specs.Bands.{IsBand}
use Rattle.iiif_planner.specs.declared.banding.Band.{Band}
use Rattle.iiif_planner.proofs.Meeting.{last_met}
use Rattle.iiif_assemble.specs.Jobs.{IsBandOf}
use Rattle.iiif_assemble.specs.declared.job.Job.{Job}

pub band_of : (j : Job) (rows i : ℕ) (b : Band) → 0 < rows → i < div_ceil (turned_dim j.resolved.turn j.resolved.size).h rows →
    IsBand j.resolved j.plan rows i b → IsBandOf j b
band_of j rows i b some within is =
    let d = turned_dim j.resolved.turn j.resolved.size in
    let above = last_met rows d.h i some within in
    record {
      inside = subst (λ (r : Rect). LiesIn r d) (sym is.rect) (record { columns = omega arith; rows = omega (arith, above) });
      items = is.items;
    }
