use Rattle.std.proofs.Common.{rules, ◌≡◌, ◌∙◌, ap}
use Rattle.iiif_pixel.proofs.Parts.{same_dim}
use Rattle.iiif_pixel.specs.Scaling.{whole_of}
use Rattle.iiif_delivery.specs.Delivery.{result_dim}
use Rattle.iiif_delivery.proofs.WholeLemmas.{whole_band}
use Rattle.iiif_delivery.proofs.rows.assemble_rows.Goals as goal

pub returns-then-eq : goal.returns-then-eq
returns-then-eq g c =
    let j = c.args.job.now in
    let same : c.args.band.now.rect ≡ whole_of c.turned-dim.result = search rules in
    let dim = same_dim c.turned-dim.result (result_dim j) c.turned-dim.ensures.width c.turned-dim.ensures.height in
    whole_band c.laws_of_bands.ensures (g.A.Items.means c.args.groups.now.tiles.now) (g.A.Items.failed c.args.groups.now.tiles.now)
    (g.B.Items.means c.args.groups.now.sums.now) (g.B.Items.failed c.args.groups.now.sums.now) j c.args.band.now c.assemble.new.held
    c.assemble.result c.requires.may.job c.requires.band (same ∙ ap whole_of dim) c.assemble.ensures
