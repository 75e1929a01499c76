-- Outcomes of flights.
--   value_of     the value of an outcome
--   is_given     a fault that a flight may end with
--   OutcomeFor   an outcome that the load of a key may end with
use Rattle.std.specs.Prelude.{◌≡◌, Bool, true, false, IsTrue, Option, None, Some, Result, Ok, Err}
use Rattle.std.specs.Arc.{arc_value}
use Rattle.std.specs.Result.{ForOk, ForErr}
use Rattle.std.specs.declared.sync.Arc.{Arc}
use Rattle.iiif_source.specs.declared.ReadFault.{ReadFault}
use Rattle.iiif_keys.specs.declared.cache_key.CacheKey as cache_key
use Rattle.iiif_keys.specs.declared.fault.Fault.{Fault}
use Rattle.iiif_keys.specs.declared.fault.Fault.TheVariants.{Source, NoMemory, UnknownName, BadKey}
use Rattle.iiif_keys.specs.declared.system.System as system

-- the value of an outcome, which a fault has none of
abbrev pub value_of : {V A E : Type 0} → Result (Arc V A) E → Option V
value_of (Ok v) = Some (arc_value v)
value_of (Err e) = None

-- A fault that a flight may end with, where the source of the image gave these: one of them, or lack of memory. No flight is of a
-- key that names nothing.
abbrev pub is_given : (ReadFault → Bool) → Fault → Bool
is_given gave (Source f) = gave f
is_given gave NoMemory = true
is_given gave UnknownName = false
is_given gave BadKey = false

module _ {K J V : Type 0} (keys : cache_key.Ghosts K V) (node : system.Ghosts J) (key : K) where
  -- an outcome that the key's load may end with on this node
  pub record OutcomeFor {A : Type 0} (o : Result (Arc V A) Fault) : Type 0 where
    -- where the image's bytes are stable and the other nodes honest, a value is the key's meaning
    pub meant : node.stable (keys.name_of key) → IsTrue node.honest → ForOk o (λ v. arc_value v ≡ keys.meaning node.pictures key)
    -- a value has the shape of the key's meaning
    pub shaped : ForOk o (λ v. IsTrue (keys.is_shaped node.pictures key (arc_value v)))
    -- a fault is one that the image's source gave, or lack of memory
    pub given : ForErr o (λ f. IsTrue (is_given (node.gave (keys.name_of key)) f))
