-- Calls of sums: their answers, and how they are counted.
use Rattle.std.specs.Prelude.{◌≡◌, ◌+◌, ◌≤◌, IfErr, IfOk, IsTrue, OnErr, OnOk, Result}
use Rattle.iiif_pixel.specs.Geometry.{channels_of}
use Rattle.iiif_keys.specs.Blocks.{SumFitsIn}
use Rattle.iiif_keys.specs.Meaning.{sum_is_shaped, sum_meaning}
use Rattle.iiif_keys.specs.declared.fault.Fault.{Fault}
use Rattle.iiif_keys.specs.declared.keys.SumKey.{SumKey}
use Rattle.iiif_keys.specs.declared.system.System as system
use Rattle.iiif_keys.specs.declared.values.SumVal.{SumVal}
use Rattle.iiif_outcome.specs.declared.receipt.Receipt.{Receipt}
use Rattle.iiif_singleflight.specs.View.{wide_leads}
use Rattle.iiif_group.specs.Beginning.{BegunFor}
use Rattle.iiif_group.specs.declared.begun.Begun.{Begun}
use Rattle.iiif_tile_group.specs.Faults.{IsLoadFault}
use Rattle.iiif_sum_group.specs.Below.{AsksBelow, AsksFor, AsksForLocal, AsksParts}
use Rattle.iiif_sum_group.specs.Outcomes.{IsRefused, KnowsSums, NamesBlock}
use Rattle.iiif_group.specs.declared.passes.Passes.{Passes}

module _ {J : Type 0} where
  -- Sums that were loaded, or why not.
  pub record Loads (node : system.Ghosts J) (key : SumKey) (old new : Passes J) (result : Result SumVal Fault) : Type 0 where
    -- Where its image is stable and other nodes are honest, the sums are the key's meaning.
    pub meant : node.stable key.name → IsTrue node.honest → IfOk result (λ v. v ≡ sum_meaning node.pictures key)
    -- They always have the key's shape.
    pub shaped : IfOk result (λ v. IsTrue (sum_is_shaped node.pictures key v))
    -- The key names a block.
    pub names : IfOk result (λ v. NamesBlock node key)
    -- A fault tells why the key names none; or the source of its image gave it, or memory ran out.
    pub fault : IfErr result (IsLoadFault node.pictures node.edge key.name key.edge (λ s. SumFitsIn s.dim (channels_of s.kind) key)
        (node.gave key.name))
    -- They are made of blocks of lower levels and of tiles alone.
    pub below : AsksBelow key old new
    -- Each of their parts was asked for.
    pub asked : OnOk result (AsksParts key old new)
    -- Tiles and sums are counted as they are got.
    pub counted : (old.tile.gets ≤ new.tile.gets) × (old.sum.gets ≤ new.sum.gets)
    -- The passes have as many parts as before.
    pub parts : (new.tile.parts ≡ old.tile.parts) × (new.sum.parts ≡ old.sum.parts)

module _ {J L : Type 0} {a b c : _} {d : system.Ghosts J} where
  -- A call for sums: the outcome of a flight of their key.
  pub record Gets (key : SumKey) (old new : Passes J) (result : Result (Receipt SumKey J L SumVal a b c d) Fault) : Type 0 where
    -- The receipt is of the key.
    pub outcome : IfOk result (KnowsSums key)
    -- The call entered, and was counted.
    pub risen : OnOk result (old.sum.gets + 1 ≤ new.sum.gets)
    -- So were the calls for what the sums are made of: blocks of lower levels and tiles alone.
    pub below : AsksFor key old new
    -- A refused call isn't counted.
    pub refused : OnErr result ((new.tile.gets ≡ old.tile.gets) × (new.sum.gets ≡ old.sum.gets))
    -- Tiles and sums are counted as they are got.
    pub counted : (old.tile.gets ≤ new.tile.gets) × (old.sum.gets ≤ new.sum.gets)
    -- The passes have as many parts as before.
    pub parts : (new.tile.parts ≡ old.tile.parts) × (new.sum.parts ≡ old.sum.parts)
    -- The key names a block.
    pub names : IfOk result (λ r. NamesBlock d key)
    -- A fault tells why the key names none; or memory ran out.
    pub fault : IfErr result (IsRefused d key)

  -- A call for sums whose owner isn't asked: the outcome of a flight of their key on this node.
  pub record GetsLocal (key : SumKey) (old new : Passes J) (result : Result (Receipt SumKey J L SumVal a b c d) Fault) : Type 0 where
    -- The receipt is of the key.
    pub outcome : IfOk result (KnowsSums key)
    -- The call entered, and was counted.
    pub risen : OnOk result (old.sum.gets + 1 ≤ new.sum.gets)
    -- It was counted once. So were the calls for what the sums are made of: blocks of lower levels and tiles alone.
    pub below : AsksForLocal key old new
    -- A refused call isn't counted.
    pub refused : OnErr result ((new.tile.gets ≡ old.tile.gets) × (new.sum.gets ≡ old.sum.gets))
    -- Tiles and sums are counted as they are got.
    pub counted : (old.tile.gets ≤ new.tile.gets) × (old.sum.gets ≤ new.sum.gets)
    -- The passes have as many parts as before.
    pub parts : (new.tile.parts ≡ old.tile.parts) × (new.sum.parts ≡ old.sum.parts)
    -- The key names a block.
    pub names : IfOk result (λ r. NamesBlock d key)
    -- A fault tells why the key names none; or memory ran out.
    pub fault : IfErr result (IsRefused d key)

module _ {J L : Type 0} {a b c : _} {d : system.Ghosts J} {e : _} where
  -- A call for sums whose parts the caller gets: the outcome of a flight of their key, or the duty to make them.
  pub record Begins (key : SumKey) (old new : Passes J) (result : Result (Begun SumKey J L SumVal a b c d e) Fault) : Type 0 where
    -- The receipt, or the load, is of the key.
    pub begun : IfOk result (BegunFor key (d.stable key.name) d.honest (sum_meaning d.pictures key) (sum_is_shaped d.pictures key)
        (d.gave key.name))
    -- The call entered, and was counted: once or, where another node was asked in vain, twice.
    pub counted : OnOk result ((old.sum.gets + 1 ≤ new.sum.gets) × (new.sum.gets ≤ old.sum.gets + 2))
    -- It entered again only where it led a wide flight: who owes the load doesn't enter the block once more, and wait for itself.
    pub again : OnOk result (new.sum.gets + wide_leads old.sum ≤ old.sum.gets + 1 + wide_leads new.sum)
    -- A refused call isn't counted.
    pub refused : OnErr result (new.sum.gets ≡ old.sum.gets)
    -- The pass has as many parts as before.
    pub parts : new.sum.parts ≡ old.sum.parts
    -- The key names a block.
    pub names : IfOk result (λ b. NamesBlock d key)
    -- A fault tells why the key names none; or memory ran out.
    pub fault : IfErr result (IsRefused d key)
    -- No tile is got.
    pub tiles : new.tile ≡ old.tile
