-- The outcome that a receipt of a key knows.
use Rattle.std.proofs.Common.{◌≡◌, Option, None, Some, IfSome, subst}
use Rattle.std.specs.Arc.{arc_value}
use Rattle.iiif_keys.specs.declared.cache_key.CacheKey as cache_key
use Rattle.iiif_keys.specs.declared.system.System as system
use Rattle.iiif_outcome.specs.Views.{receipt_known}
use Rattle.iiif_outcome.specs.declared.landed.Landed.{Landed}
use Rattle.iiif_outcome.specs.declared.receipt.Receipt.{Receipt}
use Rattle.iiif_group.specs.Beginning.{KnowsOf, OutcomeIs}
use Rattle.iiif_singleflight.specs.Handles.{IsOf}

module _ {K J V : Type 0} {a : cache_key.Ghosts K V} {b c : _} {d : system.Ghosts J} (key : K) where
  known_of_key : (o : Option (Landed K J V a b c d)) → IfSome o (λ x. arc_value x.key ≡ key) → IfSome o (λ x. (arc_value x.key ≡ key) ×
      OutcomeIs (d.stable (a.name_of key)) d.honest (a.meaning d.pictures key) (a.is_shaped d.pictures key) (d.gave (a.name_of key))
      x.outcome)
  known_of_key None h = h
  known_of_key (Some x) h = (
    h,
    subst (λ (k : K). OutcomeIs (d.stable (a.name_of k)) d.honest (a.meaning d.pictures k)
        (a.is_shaped d.pictures k) (d.gave (a.name_of k)) x.outcome) h (x.meant, x.shaped, x.given),
  )

module _ {K J L V : Type 0} {a : cache_key.Ghosts K V} {b c : _} {d : system.Ghosts J} (key : K) where
  -- A receipt of a key knows an outcome of it.
  pub knows_of_key : (r : Receipt K J L V a b c d) → IsOf key r → KnowsOf key r
  knows_of_key r h = known_of_key key (receipt_known r) h
