use Rattle.std.proofs.Common.{◌≡◌, subst, sym}
use Rattle.std.specs.List.{AllZip}
use Rattle.iiif_pixel.specs.Geometry.{top_of}
use Rattle.iiif_pixel.specs.declared.geometry.Depth.{Depth}
use Rattle.iiif_area.specs.Grid.{average_within}
use Rattle.iiif_assemble.proofs.finishing.rounded_all.Goals as goal

pub returns-in_ok-samples-in-Eight-clause-values : goal.returns-in_ok-samples-in-Eight-clause-values
returns-in_ok-samples-in-Eight-clause-values g c =
    let samples = c.in_ok-samples-in-Eight.samples.items in
    subst (λ (d : Depth). AllZip (λ n b. b ≡ average_within c.args.area (top_of d) n) c.args.sums.now samples) (sym c.in-Eight.is)
    c.in_ok-samples-in-Eight.ensures

pub returns-in_ok-samples-in-Sixteen-clause-values : goal.returns-in_ok-samples-in-Sixteen-clause-values
returns-in_ok-samples-in-Sixteen-clause-values g c =
    let samples = c.in_ok-samples-in-Sixteen.samples.items in
    subst (λ (d : Depth). AllZip (λ n b. b ≡ average_within c.args.area (top_of d) n) c.args.sums.now samples) (sym c.in-Sixteen.is)
    c.in_ok-samples-in-Sixteen.ensures
