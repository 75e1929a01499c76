-- Parts of a block's sums, by the calls that passes count: at level 0 its tile, above it its quarters, and the parts of these in turn. A
-- call is counted once, or twice where its key's owner was asked in vain.
use Rattle.std.specs.Prelude.{◌≡◌, ℕ, zero, suc, ◌+◌, ◌*◌, ◌^◌, ◌<◌, ◌≤◌, length}
use Rattle.iiif_keys.specs.Meaning.{sums_below}
use Rattle.iiif_keys.specs.declared.keys.SumKey.{SumKey}
use Rattle.iiif_group.specs.declared.passes.Passes.{Passes}

-- How many blocks of lower levels lie in a block of this level: its four quarters, and those that lie in each.
unfoldable pub blocks_below : ℕ → ℕ
blocks_below zero = 0
blocks_below (suc level) = 4 * (1 + blocks_below level)

module _ {J : Type 0} (key : SumKey) (old new : Passes J) where
  -- No more was asked for than what has a lower rank: the blocks of lower levels that lie in it and its tiles, each by one call at most. A
  -- call for the block itself would be one too many, and its flight would wait for itself.
  pub record AsksBelow : Type 0 where
    -- Of a block of level 0 no sums were.
    pub alone : key.level ≡ 0 → new.sum ≡ old.sum
    -- Of any other the blocks below it.
    pub sums : new.sum.gets ≤ old.sum.gets + 2 * blocks_below key.level
    -- And the tiles that lie in it.
    pub tiles : new.tile.gets ≤ old.tile.gets + 2 * 4 ^ key.level

  -- Each of its parts was asked for.
  pub record AsksParts : Type 0 where
    -- At level 0 its tile.
    pub tile : key.level ≡ 0 → old.tile.gets + 1 ≤ new.tile.gets
    -- Above it each of its quarters that have a pixel of the rectangle.
    pub quarters : 0 < key.level → old.sum.gets + length (sums_below key) ≤ new.sum.gets

  -- No more was asked for than the block itself, by a call that asks its owner, and what has a lower rank.
  pub record AsksFor : Type 0 where
    -- The block, and the blocks below it.
    pub sums : new.sum.gets ≤ old.sum.gets + 2 * (1 + blocks_below key.level)
    -- And the tiles that lie in it.
    pub tiles : new.tile.gets ≤ old.tile.gets + 2 * 4 ^ key.level

  -- No more was asked for than the block itself, by one call of this node alone, and what has a lower rank. A leader of the block's flight
  -- has no call left for the block.
  pub record AsksForLocal : Type 0 where
    -- The block, counted once, and the blocks below it.
    pub sums : new.sum.gets ≤ old.sum.gets + 1 + 2 * blocks_below key.level
    -- And the tiles that lie in it.
    pub tiles : new.tile.gets ≤ old.tile.gets + 2 * 4 ^ key.level
