use Rattle.iiif_planner.proofs.Once.{each_tile_once, each_block_once}
use Rattle.iiif_planner.proofs.laws.each_is_listed_once.Goals as goal

pub returns-clause-tiles : goal.returns-clause-tiles
returns-clause-tiles c = each_tile_once

pub returns-clause-blocks : goal.returns-clause-blocks
returns-clause-blocks c = each_block_once
