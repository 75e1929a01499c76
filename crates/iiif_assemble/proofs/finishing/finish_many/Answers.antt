use Rattle.std.proofs.Common.{◌≡◌, ◌∙◌, ◌*◌, ℕ, List, ap, subst}
use Rattle.std.specs.List.{AllZip}
use Rattle.iiif_pixel.specs.Depths.{values_of}
use Rattle.iiif_pixel.specs.Geometry.{channels_of, sides_of, top_of}
use Rattle.iiif_pixel.specs.declared.geometry.Depth.{Depth}
use Rattle.iiif_pixel.specs.Picture.{Picture}
use Rattle.iiif_pixel.specs.declared.geometry.Dim.{Dim}
use Rattle.iiif_area.specs.Grid.{average_within}
use Rattle.iiif_area.proofs.SumLaws.{same_product}
use Rattle.iiif_assemble.proofs.FinishLemmas.{all_finished}
use Rattle.iiif_assemble.proofs.finishing.finish_many.Goals as goal

pub returns : goal.returns
returns g c =
    let t = c.args.total.now in
    let area = c.from.result * c.from-2.result in
    let top = top_of c.args.depth in
    let samples = values_of c.in_ok-samples.samples in
    let zipped = subst (λ (ss : List ℕ). AllZip (λ s b. b ≡ average_within area top s) ss samples) c.sums.ensures.all
    c.in_ok-samples.ensures.values in
    let items = all_finished t c.args.region area top samples (same_product c.from.ensures c.from-2.ensures) c.sums.ensures.grid.count
    zipped in
    let P : Dim → ℕ → List ℕ → Picture = λ d n xs. record { width = d.w; height = d.h; channels = n; top = top; samples = xs } in
    let Q : Depth → Picture = λ e. record {
      width = c.dim.result.w;
      height = c.dim.result.h;
      channels = channels_of c.kind.result;
      top =
          top_of e;
      samples = samples;
    } in
    let d = sides_of t.rect in
    c.from_samples.ensures ∙ ap Q c.in_ok-samples.ensures.depth ∙
    ap (λ (e : Dim). P e (channels_of c.kind.result) samples) (c.dim.ensures ∙ ap sides_of c.rect.ensures) ∙
    ap (λ (n : ℕ). P d n samples) c.kind.ensures ∙ ap (P d t.channels) items
