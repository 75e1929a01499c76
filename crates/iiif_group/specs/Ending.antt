-- The end of a load, as the call is told it that completes it.
--
--   exact      of a receipt: it has the load's own outcome
--   loaded     the receipt of the local flight, where the first one is of the wide flight
--   refused    an outcome that a cell handed back, which no run meets
use Rattle.std.specs.Prelude.{◌≡◌, IfNone, IfSome, IsFalse, IsTrue, MatchOption, OnErr, Err, Result}
use Rattle.std.specs.Arc.{arc_value}
use Rattle.std.specs.declared.alloc.Global.{Global}
use Rattle.std.specs.declared.sync.Arc.{Arc}
use Rattle.iiif_keys.specs.declared.cache_key.CacheKey as cache_key
use Rattle.iiif_keys.specs.declared.fault.Fault.{Fault}
use Rattle.iiif_keys.specs.declared.fault.Fault.TheVariants.{NoMemory}
use Rattle.iiif_keys.specs.declared.system.System as system
use Rattle.iiif_outcome.specs.Views.{receipt_cell, receipt_known}
use Rattle.iiif_group.specs.Beginning.{open_key, outcome_of, was_asked, IsFirstFlight, IsLocalFlight, KnowsOf}
use Rattle.iiif_group.specs.declared.begun.Completed.{Completed}
use Rattle.iiif_group.specs.declared.begun.Open.{Open}

module _ {K J L V : Type 0} {a : cache_key.Ghosts K V} {b c : _} {d : system.Ghosts J} where
  -- A receipt that is exact has the load's own outcome.
  abbrev pub IsExact : Result (Arc V Global) Fault → Completed K J L V a b c d → Type 0
  IsExact outcome end = IsTrue end.exact → IfSome (receipt_known end.receipt) (λ x. outcome_of x.outcome ≡ outcome_of outcome)

  -- A fault is told as it is.
  abbrev pub TellsFault : Result (Arc V Global) Fault → Completed K J L V a b c d → Type 0
  TellsFault outcome end = IfNone end.refused (OnErr outcome (IsTrue end.exact))

module _ {K J L V : Type 0} {a : cache_key.Ghosts K V} {b c : _} {d : system.Ghosts J} {e : _} where
  -- A load ends with this outcome.
  pub record Completes (load : Open K J L V a b c d e) (outcome : Result (Arc V Global) Fault) (end : Completed K J L V a b c d)
      : Type 0 where
    -- The receipt knows an outcome of the key.
    pub known : KnowsOf (open_key load) end.receipt
    -- It is of the flight that the call entered first.
    pub flight : IsFirstFlight load (receipt_cell end.receipt)
    -- Where it is exact, it has the load's outcome.
    pub exact : IsExact outcome end
    -- A receipt that isn't exact is of a wide flight, and has lack of memory.
    pub wanting : IfNone end.refused (IsFalse end.exact → IsTrue (was_asked load) ×
        IfSome (receipt_known end.receipt) (λ x. outcome_of x.outcome ≡ Err NoMemory))
    -- A fault is told as it is.
    pub fault : TellsFault outcome end
    -- The other receipt, where there is one, has the load's outcome.
    pub loaded : MatchOption end.loaded (IsFalse (was_asked load))
        (λ r. IfSome (receipt_known r) (λ x. (arc_value x.key ≡ open_key load) × IfNone end.refused (x.outcome ≡ outcome)))
    -- It is of the local flight.
    pub local : IfSome end.loaded (λ r. IsLocalFlight load (receipt_cell r))
    -- An outcome that was refused is of the key.
    pub refused : IfSome end.refused (λ b. arc_value b.value.key ≡ open_key load)
