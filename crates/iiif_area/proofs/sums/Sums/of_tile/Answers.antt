use Rattle.std.proofs.Common.{◌≡◌, ◌∙◌}
use Rattle.iiif_pixel.specs.Operations.{crop}
use Rattle.iiif_area.specs.Grid.{Grid, sums_of}
use Rattle.iiif_area.specs.Places.{part_of}
use Rattle.iiif_area.proofs.TileLaws.{share_sums_are}
use Rattle.iiif_area.proofs.sums.Sums.of_tile.Goals as goal

pub returns-clause-sums : goal.returns-clause-sums
returns-clause-sums c = λ p e.
    let all : ◌≡◌ {A = Grid} c.in_ok-sums.sums (sums_of (crop p c.args.region) c.args.size (part_of c.args.at c.args.region)) =
    c.in_ok-sums.ensures.sums
    ∙ share_sums_are p c.args.at c.args.region c.args.size c.new-share.result c.args.tile.now c.new-share.ensures e in
    search all
