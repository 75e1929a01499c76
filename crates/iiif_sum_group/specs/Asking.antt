-- Sums that are made of what is asked for: words of private functions.
use Rattle.std.specs.Prelude.{◌≡◌, ℕ, ◌+◌, ◌-◌, ◌*◌, ◌^◌, ◌≤◌, IfErr, IfOk, IsTrue, List, OnErr, OnOk, Result, length}
use Rattle.std.specs.Arc.{arc_value}
use Rattle.std.specs.Result.{ForErr, ForOk}
use Rattle.std.specs.declared.alloc.Global.{Global}
use Rattle.std.specs.declared.sync.Arc.{Arc}
use Rattle.iiif_keys.specs.Meaning.{sum_is_shaped, sum_meaning}
use Rattle.iiif_keys.specs.declared.fault.Fault.{Fault}
use Rattle.iiif_keys.specs.declared.fault.Fault.TheVariants.{NoMemory}
use Rattle.iiif_keys.specs.declared.keys.SumKey.{SumKey}
use Rattle.iiif_keys.specs.declared.system.System as system
use Rattle.iiif_keys.specs.declared.values.SumVal.{SumVal}
use Rattle.iiif_outcome.specs.Outcomes.{is_given}
use Rattle.iiif_outcome.specs.declared.receipt.Receipt.{Receipt}
use Rattle.iiif_sum_group.specs.Below.{blocks_below, AsksBelow, AsksFor, AsksParts}
use Rattle.iiif_sum_group.specs.Outcomes.{KnowsSums}
use Rattle.iiif_group.specs.declared.passes.Passes.{Passes}
use Rattle.iiif_sum_group.specs.declared.make_error.MakeError.{MakeError}
use Rattle.iiif_sum_group.specs.declared.make_error.MakeError.TheVariants.{Part, Total}

-- the fault that is told where a block has no value
abbrev pub fault_in : MakeError → Fault
fault_in (Part f) = f
fault_in Total = NoMemory

module _ {J : Type 0} where
  -- each call is counted
  abbrev pub Rises : Passes J → Passes J → Type 0
  Rises old new = (old.tile.gets ≤ new.tile.gets) × (old.sum.gets ≤ new.sum.gets)

  -- each of these keys was asked for
  abbrev pub AskedAll : List SumKey → Passes J → Passes J → Type 0
  AskedAll keys old new = old.sum.gets + length keys ≤ new.sum.gets

  -- the counts are shared out among as many as before
  abbrev pub HasAsManyParts : Passes J → Passes J → Type 0
  HasAsManyParts old new = (new.tile.parts ≡ old.tile.parts) × (new.sum.parts ≡ old.sum.parts)

module _ {J : Type 0} (level count : ℕ) (old new : Passes J) where
  -- No more was asked for than so many parts of a block of this level, and the blocks and tiles that lie in these.
  pub record AsksSoMany : Type 0 where
    pub sums : new.sum.gets ≤ old.sum.gets + count * (2 * (1 + blocks_below (level - 1)))
    pub tiles : new.tile.gets ≤ old.tile.gets + count * (2 * 4 ^ (level - 1))

module _ {J : Type 0} (node : system.Ghosts J) (key : SumKey) (old new : Passes J) where
  -- The value of the key, for one caller; or why not. What it is made of is counted as it was asked for.
  pub record MakesOne (result : Result SumVal Fault) : Type 0 where
    pub meant : node.stable key.name → IsTrue node.honest → IfOk result (λ v. v ≡ sum_meaning node.pictures key)
    pub shaped : IfOk result (λ v. IsTrue (sum_is_shaped node.pictures key v))
    pub given : IfErr result (λ f. IsTrue (is_given (node.gave key.name) f))
    pub below : AsksBelow key old new
    pub asked : OnOk result (AsksParts key old new)
    pub counted : (old.tile.gets ≤ new.tile.gets) × (old.sum.gets ≤ new.sum.gets)
    pub parts : (new.tile.parts ≡ old.tile.parts) × (new.sum.parts ≡ old.sum.parts)

  -- the same, for all that wait
  pub record Makes (result : Result (Arc SumVal Global) Fault) : Type 0 where
    pub meant : node.stable key.name → IsTrue node.honest → ForOk result (λ v. arc_value v ≡ sum_meaning node.pictures key)
    pub shaped : ForOk result (λ v. IsTrue (sum_is_shaped node.pictures key (arc_value v)))
    pub given : ForErr result (λ f. IsTrue (is_given (node.gave key.name) f))
    pub below : AsksBelow key old new
    pub asked : ForOk result (λ v. AsksParts key old new)
    pub counted : (old.tile.gets ≤ new.tile.gets) × (old.sum.gets ≤ new.sum.gets)
    pub parts : (new.tile.parts ≡ old.tile.parts) × (new.sum.parts ≡ old.sum.parts)

  -- the same of a block above level 0, where it is known why it has no value
  pub record MakesOfParts (result : Result (Arc SumVal Global) MakeError) : Type 0 where
    pub meant : node.stable key.name → IsTrue node.honest → ForOk result (λ v. arc_value v ≡ sum_meaning node.pictures key)
    pub shaped : ForOk result (λ v. IsTrue (sum_is_shaped node.pictures key (arc_value v)))
    pub given : ForErr result (λ u. IsTrue (is_given (node.gave key.name) (fault_in u)))
    pub below : AsksBelow key old new
    pub asked : ForOk result (λ v. AsksParts key old new)
    pub counted : (old.tile.gets ≤ new.tile.gets) × (old.sum.gets ≤ new.sum.gets)
    pub parts : (new.tile.parts ≡ old.tile.parts) × (new.sum.parts ≡ old.sum.parts)

module _ {J L : Type 0} {a b c : _} {d : system.Ghosts J} where
  -- The outcome of a flight of the key; or memory ran out. It is counted, and so are the calls for its parts.
  pub record Asks (key : SumKey) (old new : Passes J) (result : Result (Receipt SumKey J L SumVal a b c d) Fault) : Type 0 where
    pub outcome : IfOk result (KnowsSums key)
    pub risen : OnOk result (old.sum.gets + 1 ≤ new.sum.gets)
    pub refused : OnErr result ((new.tile.gets ≡ old.tile.gets) × (new.sum.gets ≡ old.sum.gets))
    pub below : AsksFor key old new
    pub counted : (old.tile.gets ≤ new.tile.gets) × (old.sum.gets ≤ new.sum.gets)
    pub parts : (new.tile.parts ≡ old.tile.parts) × (new.sum.parts ≡ old.sum.parts)
    pub fault : IfErr result (λ f. f ≡ NoMemory)
