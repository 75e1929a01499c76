use Rattle.std.proofs.Common.{inl, inr, ⊎_elim, refl, subst}
use Rattle.iiif_pixel.specs.Geometry.{channels_of, sides_of}
use Rattle.iiif_pixel.specs.declared.geometry.Rect.{Rect}
use Rattle.iiif_assemble.specs.Jobs.{IsHeldFor}
use Rattle.iiif_delivery.specs.Code.{IsBandFor}
use Rattle.iiif_delivery.proofs.rows.make_band.Goals as goal

pub returns-in_default : goal.returns-in_default
returns-in_default g c = record {
  kept = c.requires.kept;
  few = c.requires.few;
  own = tt;
  rows = tt;
  none = refl;
  held = tt;
  count = tt;
  why = inl refl;
}

pub returns-in-Err : goal.returns-in-Err
returns-in-Err g c = record {
  kept = c.requires.kept;
  few = c.requires.few;
  own = tt;
  rows = tt;
  none = refl;
  held = tt;
  count = tt;
  why = c.in-Err.ensures.gone;
}

pub returns-in-Ok-made : goal.returns-in-Ok-made
returns-in-Ok-made g c =
    let j = c.args.sending.now.job.now in
    let tm = g.A.Items.means c.args.context.now.tiles.now in let sm = g.B.Items.means c.args.context.now.sums.now in
    let made = c.in-Ok-made.ensures.rows in
    record {
      kept = c.put_band-made.ensures.kept;
      few = c.put_band-made.ensures.few;
      own = (c.in-Ok.band, c.in-Ok.ensures.rect, c.in-Ok.ensures.band, c.in-Ok-made.ensures.own);
      rows = (made.0, subst (λ (r : Rect). IsBandFor j tm sm r made.0) c.in-Ok.ensures.rect made.1, made.2);
      none = tt;
      held = subst (λ (r : Rect). IsHeldFor (sides_of r) (channels_of j.shape.kind) c.in-Ok-made.counts.held)
          c.in-Ok.ensures.rect c.in-Ok-made.ensures.held;
      count = c.in-Ok-made.ensures.count;
      why = tt;
    }

pub returns : goal.returns
returns g c = record {
  kept = c.put_band-made.ensures.kept;
  few = c.put_band-made.ensures.few;
  own = tt;
  rows = tt;
  none = c.in-Err-made.ensures.none;
  held = tt;
  count = tt;
  why = ⊎_elim (λ e. inl e) (λ f. inr (c.in-Ok.band, c.in-Ok.ensures.rect, c.in-Ok.ensures.band, f)) c.in-Err-made.ensures.fault;
}
