-- Answers for the key of sums, on a node.
use Rattle.std.specs.Prelude.{◌≡◌, ◌<◌, Err, IfErr, IfOk, IfSome, IsTrue, Result}
use Rattle.std.specs.Arc.{arc_value}
use Rattle.std.specs.Result.{ForErr, ForOk}
use Rattle.std.specs.declared.alloc.Global.{Global}
use Rattle.std.specs.declared.sync.Arc.{Arc}
use Rattle.std.specs.declared.vec.Vec.{Vec}
use Rattle.iiif_pixel.specs.Geometry.{channels_of}
use Rattle.iiif_keys.specs.Blocks.{NamesPart, SumFitsIn}
use Rattle.iiif_keys.specs.Meaning.{sum_is_shaped, sum_meaning, sums_below}
use Rattle.iiif_keys.specs.declared.fault.Fault.{Fault}
use Rattle.iiif_keys.specs.declared.keys.SumKey.{SumKey}
use Rattle.iiif_keys.specs.declared.system.System as system
use Rattle.iiif_keys.specs.declared.values.SumVal.{SumVal}
use Rattle.iiif_outcome.specs.Outcomes.{is_given}
use Rattle.iiif_outcome.specs.Views.{receipt_known}
use Rattle.iiif_outcome.specs.declared.receipt.Receipt.{Receipt}
use Rattle.iiif_group.specs.Beginning.{OutcomeIs}
use Rattle.iiif_group.specs.Ending.{IsExact, TellsFault}
use Rattle.iiif_group.specs.declared.begun.Completed.{Completed}
use Rattle.iiif_tile_group.specs.Faults.{IsGetFault}
use Rattle.iiif_sum_group.specs.Values.{MayBeSums}

module _ {J : Type 0} (node : system.Ghosts J) (key : SumKey) where
  -- the key names sums over a block of the picture that its name has
  abbrev pub NamesBlock : Type 0
  NamesBlock = NamesPart node.pictures node.edge key.name key.edge (λ s. SumFitsIn s.dim (channels_of s.kind) key)

  -- why it can't be asked for: it names none, or memory runs out
  abbrev pub IsRefused : Fault → Type 0
  IsRefused = IsGetFault node.pictures node.edge key.name key.edge (λ s. SumFitsIn s.dim (channels_of s.kind) key)

  -- an outcome of the key
  pub record EndsWith {A : Type 0} (outcome : Result (Arc SumVal A) Fault) : Type 0 where
    pub meant : node.stable key.name → IsTrue node.honest → ForOk outcome (λ v. arc_value v ≡ sum_meaning node.pictures key)
    pub shaped : ForOk outcome (λ v. IsTrue (sum_is_shaped node.pictures key (arc_value v)))
    pub given : ForErr outcome (λ f. IsTrue (is_given (node.gave key.name) f))

  -- the keys of its block's quarters
  pub record Quarters {A : Type 0} (result : Result (Vec SumKey A) Fault) : Type 0 where
    pub parts : IfOk result (λ v. v.items ≡ sums_below key)
    pub names : IfOk result (λ v. NamesBlock)
    pub fault : IfErr result IsRefused

module _ {J L : Type 0} {a b c : _} {d : system.Ghosts J} where
  -- the receipt knows an outcome of the key
  abbrev pub KnowsSums : SumKey → Receipt SumKey J L SumVal a b c d → Type 0
  KnowsSums key r = IfSome (receipt_known r) (λ x. (arc_value x.key ≡ key)
      × OutcomeIs (d.stable key.name) d.honest (sum_meaning d.pictures key) (sum_is_shaped d.pictures key) (d.gave key.name) x.outcome)

module _ {J : Type 0} (node : system.Ghosts J) (key : SumKey) {A : Type 0} (values : Result (Vec (Arc SumVal Global) A) Fault) where
  -- The values of the quarters of a block above level 0, or why there are none.
  pub record AreOfQuarters : Type 0 where
    pub level : 0 < key.level
    pub values_are : IfOk values (λ v. MayBeSums node.pictures node.stable node.honest (sums_below key) v.items)
    pub given : IfErr values (λ f. IsTrue (is_given (node.gave key.name) f))

  -- The block's own value, made of them; or why there is none, which is why they have none.
  pub record Finishes {B : Type 0} (result : Result (Arc SumVal B) Fault) : Type 0 where
    pub meant : node.stable key.name → IsTrue node.honest → ForOk result (λ v. arc_value v ≡ sum_meaning node.pictures key)
    pub shaped : ForOk result (λ v. IsTrue (sum_is_shaped node.pictures key (arc_value v)))
    pub given : ForErr result (λ f. IsTrue (is_given (node.gave key.name) f))
    pub same : IfErr values (λ f. result ≡ Err f)

module _ {J L : Type 0} {a b c : _} {d : system.Ghosts J} where
  -- A load of the key has ended with what the values of its quarters come to, which is what all that wait are told; a fault as it is.
  pub record TellsAll {A : Type 0} (key : SumKey) (values : Result (Vec (Arc SumVal Global) A) Fault)
      (end : Completed SumKey J L SumVal a b c d) : Type 0 where
    pub known : KnowsSums key end.receipt
    pub outcome : Result (Arc SumVal Global) Fault
    pub comes : Finishes d key values outcome
    pub exact : IsExact outcome end
    pub fault : TellsFault outcome end
