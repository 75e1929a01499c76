use Rattle.std.proofs.Common.{◌≡◌, ◌++◌, List, ℕ, subst}
use Rattle.iiif_io.specs.Sending.{WasCut}
use Rattle.iiif_pixel.specs.Picture.{dim_of}
use Rattle.iiif_pixel.proofs.Parts.{same_dim}
use Rattle.iiif_delivery.proofs.TileLemmas.{file_in_parts}
use Rattle.iiif_delivery.proofs.tile.send_raster.Goals as goal

pub returns : goal.returns
returns g c =
    let image = c.args.raster.now in
    let rows = c.byte_rows-rows.result.now in
    let text : c.deref.result.now ≡ c.in-Ok.text.items = c.deref.ensures.value in
    let sides = same_dim c.dim.result (dim_of image) c.dim.ensures.width c.dim.ensures.height in
    let whole = file_in_parts c.args.start.now c.args.kind image c.dim.result c.in-Ok.text.items rows c.in-Ok.ensures
    c.byte_rows-rows.ensures sides in
    let cut = subst (λ (t : List ℕ). WasCut g.W.Write.contents g.W.Outlet.fails c.args.out.now c.send_both.new.out (t ++ rows)
    c.in-Err.sent) text c.in-Err.ensures.cut in
    record {
      whole = tt;
      stopped = subst (λ (t : List ℕ). WasCut g.W.Write.contents g.W.Outlet.fails c.args.out.now c.send_both.new.out t c.in-Err.sent)
          whole cut;
    }
