use Rattle.std.proofs.Common.{arith, ap, inl, inr, refl}
use Rattle.iiif_delivery.specs.declared.delivery.Stopped.TheVariants.{Load}
use Rattle.iiif_delivery.proofs.delivery.stop.Goals as goal

pub returns-then-held-eq0 : goal.returns-then-held-eq0
returns-then-held-eq0 g c = inl (c.if-held-eq0.true, refl, refl)

pub returns-in-Ok : goal.returns-in-Ok
returns-in-Ok g c =
    inr (inl (omega (arith, c.if-held-eq0.false), c.in-Ok.ensures.whole, ap (λ n. Load n c.args.fault) c.in-Ok.ensures.count))

pub returns-in-Err : goal.returns-in-Err
returns-in-Err g c = inr (inr c.in-Err.ensures.cut)
