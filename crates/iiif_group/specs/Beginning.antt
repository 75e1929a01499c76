-- Answers to calls of a group, and their counts.
--
--   outcome    of a key: a value of its shape, which is its meaning where the premises hold; or a fault that may be told of it
--   share      an outcome's value for one more holder, or lack of memory
--   begun      the answer to a call: the outcome of a flight of its key, or a load that the caller owes
--   asked      of a load: the key's owner was asked, and gave no value
--   falls      a call enters again, or owes a load, where the owner gave no value
--   gate       each load passes it
use Rattle.std.specs.Prelude.{◌≡◌, ◌⊎◌, ℕ, ◌+◌, ◌≤◌, Bool, List, IfSome, IsFalse, IsTrue, MatchOption, OnErr, OnOk}
use Rattle.std.specs.Prelude.{Some, Result, Ok, Err, is_some}
use Rattle.std.specs.Result.{ForOk, ForErr}
use Rattle.std.specs.Arc.{arc_value}
use Rattle.std.specs.declared.sync.Arc.{Arc}
use Rattle.iiif_source.specs.declared.ReadFault.{ReadFault}
use Rattle.iiif_keys.specs.Shapes.{HasPicture}
use Rattle.iiif_keys.specs.declared.cache_key.CacheKey as cache_key
use Rattle.iiif_keys.specs.declared.fault.Fault.{Fault}
use Rattle.iiif_keys.specs.declared.fault.Fault.TheVariants.{NoMemory}
use Rattle.iiif_keys.specs.declared.keys.Shape.{Shape}
use Rattle.iiif_keys.specs.declared.system.System as system
use Rattle.iiif_outcome.specs.Outcomes.{is_given, value_of}
use Rattle.iiif_outcome.specs.Views.{receipt_known}
use Rattle.iiif_outcome.specs.declared.receipt.Receipt.{Receipt}
use Rattle.iiif_singleflight.specs.Handles.{checked_cell, checked_key}
use Rattle.iiif_singleflight.specs.View.{wide_leads}
use Rattle.iiif_singleflight.specs.declared.pass.Pass.{Pass}
use Rattle.iiif_group.specs.Leads.{asked_lead}
use Rattle.iiif_group.specs.Owners.{cluster_in, IsOthers, OwnsKey}
use Rattle.iiif_group.specs.declared.begun.Begun.{Begun}
use Rattle.iiif_group.specs.declared.begun.Begun.TheVariants.{Known, Load}
use Rattle.iiif_group.specs.declared.begun.Open.{Open}
use Rattle.iiif_group.specs.declared.group.Cluster.{Cluster}
use Rattle.iiif_group.specs.declared.group.Group.{Group}

-- An outcome of a key: a value of its shape, which is its meaning where the bytes of its image are stable and the other nodes are
-- honest; or a fault that the image's source gave, or lack of memory.
abbrev pub OutcomeIs : {V A : Type 0} → Type 0 → Bool → V → (V → Bool) → (ReadFault → Bool) → Result (Arc V A) Fault → Type 0
OutcomeIs stable honest meaning shaped gave o =
    (stable → IsTrue honest → ForOk o (λ v. arc_value v ≡ meaning)) × ForOk o (λ v. IsTrue (shaped (arc_value v))) ×
    ForErr o (λ f. IsTrue (is_given gave f))

module _ {K J V : Type 0} (keys : cache_key.Ghosts K V) (node : system.Ghosts J) (key : K) where
  -- The key names a part of an image of this shape.
  pub record IsPartOf (shape : Shape) : Type 0 where
    -- The picture of the key's name has this shape.
    pub known : HasPicture node.pictures (keys.name_of key) shape
    -- The part lies in it.
    pub fits : keys.fits_in shape key

-- The outcome, whoever shares its value.
abbrev pub outcome_of : {V A E : Type 0} → Result (Arc V A) E → Result V E
outcome_of (Ok v) = Ok (arc_value v)
outcome_of (Err e) = Err e

-- A share of an outcome, and whether it is exact.
pub record Shares {V A : Type 0} (outcome share : Result (Arc V A) Fault) (exact : Bool) : Type 0 where
  -- A value that is shared is the outcome's.
  pub ok : ForOk share (λ v. value_of outcome ≡ Some (arc_value v))
  -- A fault that is told may be told of the same key.
  pub err : (gave : ReadFault → Bool) → ForErr outcome (λ f. IsTrue (is_given gave f)) → ForErr share (λ f. IsTrue (is_given gave f))
  -- An exact share is the outcome.
  pub same : IsTrue exact → outcome_of share ≡ outcome_of outcome
  -- Any other is lack of memory.
  pub wanting : IsFalse exact → outcome_of share ≡ Err NoMemory
  -- A fault is always told as it is.
  pub fault : OnErr outcome (IsTrue exact)

module _ {K J L V : Type 0} {a b c d e : _} where
  -- The key of the value that has to be loaded.
  abbrev pub open_key : Open K J L V a b c d e → K
  open_key o = checked_key o.local

  -- The key's owner was asked, and gave no value.
  abbrev pub was_asked : Open K J L V a b c d e → Bool
  was_asked o = is_some o.wide

  -- The cell of the flight that the call entered first, by which all who joined it learn its outcome: of the wide one where the key's
  -- owner was asked, else of the local one.
  abbrev pub IsFirstFlight : Open K J L V a b c d e → ℕ → Type 0
  IsFirstFlight o cell = MatchOption o.wide (cell ≡ checked_cell o.local) (λ w. cell ≡ checked_cell (asked_lead w))

  -- The cell of the local flight.
  abbrev pub IsLocalFlight : Open K J L V a b c d e → ℕ → Type 0
  IsLocalFlight o cell = cell ≡ checked_cell o.local

  -- The outcome of a flight of this key, or the duty to load its value.
  abbrev pub BegunFor : K → Type 0 → Bool → V → (V → Bool) → (ReadFault → Bool) → Begun K J L V a b c d e → Type 0
  BegunFor key stable honest meaning shaped gave (Known r) =
      IfSome (receipt_known r) (λ x. (arc_value x.key ≡ key) × OutcomeIs stable honest meaning shaped gave x.outcome)
  BegunFor key stable honest meaning shaped gave (Load o) = open_key o ≡ key

  -- A load is owed only where this holds, as that its key has passed a gate.
  abbrev pub LoadsIf : Type 0 → Begun K J L V a b c d e → Type 0
  LoadsIf holds (Known r) = Unit {0}
  LoadsIf holds (Load o) = holds

  -- No owner was asked for a load.
  abbrev pub IsAlone : Begun K J L V a b c d e → Type 0
  IsAlone (Known r) = Unit {0}
  IsAlone (Load o) = IsFalse (was_asked o)

  -- A call enters again, or owes a load behind an ask, only where this holds, as that the owner was asked and gave no value.
  abbrev pub FallsBackIf : Type 0 → Pass L → Pass L → Begun K J L V a b c d e → Type 0
  FallsBackIf nothing old new (Known r) = (new.gets ≡ old.gets + 1) ⊎ nothing
  FallsBackIf nothing old new (Load o) = ((new.gets ≡ old.gets + 1) × IsFalse (was_asked o)) ⊎ nothing

  -- The owner was asked for a load.
  abbrev pub HasAsked : Begun K J L V a b c d e → Type 0
  HasAsked (Known r) = Unit {0}
  HasAsked (Load o) = IsTrue (was_asked o)

module _ {K J L N T V : Type 0} {a b c d e : _} where
  -- The nodes among which the group stands.
  abbrev pub cluster_of : Group K J L N T V a b c d e → Cluster N
  cluster_of group = cluster_in group.nodes

  -- No node at another place of the ring owns the key with these bytes: it is this node's own.
  abbrev pub HasNoOthers : Group K J L N T V a b c d e → List ℕ → Type 0
  HasNoOthers group key = IsOthers (cluster_of group) key → ⊥

module _ {K J L N T V : Type 0} {a b c d e f : _} where
  -- A load is owed without having asked by a node that owns the key alone, and after having asked where another node owns it.
  abbrev pub AsksOwner : Group K J L N T V a b c d e → List ℕ → Begun K J L V a b c d f → Type 0
  AsksOwner group key (Known r) = Unit {0}
  AsksOwner group key (Load o) = (IsFalse (was_asked o) → OwnsKey (cluster_of group) key) ×
      (IsTrue (was_asked o) → IsOthers (cluster_of group) key)

module _ {K J L V : Type 0} {a : cache_key.Ghosts K V} {b c : _} {d : system.Ghosts J} where
  -- The receipt knows an outcome of this key.
  abbrev pub KnowsOf : K → Receipt K J L V a b c d → Type 0
  KnowsOf key r = IfSome (receipt_known r) (λ x. (arc_value x.key ≡ key) ×
      OutcomeIs (d.stable (a.name_of key)) d.honest (a.meaning d.pictures key) (a.is_shaped d.pictures key) (d.gave (a.name_of key))
      x.outcome)

module _ {K J L V : Type 0} {a : cache_key.Ghosts K V} {b c : _} {d : system.Ghosts J} {e : _} where
  -- `BegunFor` of this key on the node of the call.
  abbrev pub BegunOf : K → Begun K J L V a b c d e → Type 0
  BegunOf key = BegunFor key (d.stable (a.name_of key)) d.honest (a.meaning d.pictures key) (a.is_shaped d.pictures key)
      (d.gave (a.name_of key))

module _ {L : Type 0} where
  -- A call enters once.
  pub record CountsOnce {X E : Type 0} (old new : Pass L) (result : Result X E) : Type 0 where
    -- It is counted where it begins.
    pub counted : OnOk result (new.gets ≡ old.gets + 1)
    -- It isn't where it is refused.
    pub refused : OnErr result (new.gets ≡ old.gets)
    -- The pass has as many parts as before.
    pub parts : new.parts ≡ old.parts
    -- It leads no wide flight.
    pub led : wide_leads new ≡ wide_leads old

  -- A call enters twice at most.
  pub record CountsTwiceAtMost {X E : Type 0} (old new : Pass L) (result : Result X E) : Type 0 where
    -- It is counted where it begins, and again where it enters again.
    pub counted : OnOk result ((old.gets + 1 ≤ new.gets) × (new.gets ≤ old.gets + 2))
    -- It enters again only where it leads a wide flight: a call that hits, or that joined, doesn't.
    pub again : OnOk result (new.gets + wide_leads old ≤ old.gets + 1 + wide_leads new)
    -- It leads one wide flight at most.
    pub led : (wide_leads old ≤ wide_leads new) × (wide_leads new ≤ wide_leads old + 1)
    -- It isn't counted where it is refused.
    pub refused : OnErr result (new.gets ≡ old.gets)
    -- The pass has as many parts as before.
    pub parts : new.parts ≡ old.parts

-- The gate that loads of a group pass.
abbrev pub gate_of : {K J L N T V : Type 0} {a b c d e : _} → Group K J L N T V a b c d e → T
gate_of group = group.gate
