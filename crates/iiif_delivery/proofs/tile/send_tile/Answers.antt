use Rattle.std.proofs.Common.{arith, rules, true≢false, ◌≡◌, ◌+◌, ◌*◌, ◌∙◌, min, length, refl, ap}
use Rattle.iiif_pixel.specs.Geometry.{channels_of}
use Rattle.iiif_pixel.specs.Picture.{dim_of}
use Rattle.iiif_pixel.specs.declared.geometry.Dim.{Dim}
use Rattle.iiif_pixel.proofs.Parts.{same_dim}
use Rattle.iiif_assemble.specs.Lone.{IsTileImage}
use Rattle.iiif_keys.specs.declared.keys.TileKey.{TileKey}
use Rattle.iiif_tiff_write.specs.File.{head_of}
use Rattle.iiif_delivery.specs.Delivery.{result_dim, IsTile}
use Rattle.iiif_delivery.proofs.TileLemmas.{all_samples, buffered_itself, held_fits, held_itself, raster_stops}
use Rattle.iiif_delivery.proofs.tile.send_tile.Goals as goal

pub overflow_mul-held-2 : goal.overflow_mul-held-2
overflow_mul-held-2 g c =
    let s = c.args.sending.now in
    let j = s.job.now in
    let d = result_dim j in
    let image = c.deref.result.now.raster in
    let is : IsTileImage j (g.A.Items.means c.args.context.now.tiles.now) image = search rules in
    let lone : (k : TileKey) × IsTile j k = search rules in
    let high : c.from.result ≡ min s.rows d.h = c.from.ensures ∙ c.min.ensures ∙
    ap (λ h. min s.rows h) (c.dim-dim.ensures.height ∙ ap (λ (e : Dim). e.h) is.sides) in
    let wide : c.from-2.result ≡ d.w = c.from-2.ensures ∙ c.dim-dim.ensures.width ∙ ap (λ (e : Dim). e.w) is.sides in
    let samples : c.channels.result ≡ channels_of j.shape.kind = search rules in
    let fits = held_fits s.rows d (channels_of j.shape.kind) c.from.result c.from-2.result c.channels.result c.count_samples-kept.result
    high
    wide samples
    (all_samples image d (channels_of j.shape.kind) j.resolved.quality c.count_samples-kept.result c.count_samples-kept.ensures.count
    is.sides is.channels lone.1.1.keeps) c.count_samples-kept.ensures.small in
    omega (arith, fits)

pub returns-in-Ok-send_raster : goal.returns-in-Ok-send_raster
returns-in-Ok-send_raster g c =
    let s = c.args.sending.now in
    let j = s.job.now in
    let d = result_dim j in
    let image = c.deref.result.now.raster in
    let is : IsTileImage j (g.A.Items.means c.args.context.now.tiles.now) image = search rules in
    let high : c.from.result ≡ min s.rows d.h = c.from.ensures ∙ c.min.ensures ∙
    ap (λ h. min s.rows h) (c.dim-dim.ensures.height ∙ ap (λ (e : Dim). e.h) is.sides) in
    let wide : c.from-2.result ≡ d.w = c.from-2.ensures ∙ c.dim-dim.ensures.width ∙ ap (λ (e : Dim). e.w) is.sides in
    let sides : c.dim-dim.result ≡ d =
    same_dim c.dim-dim.result (dim_of image) c.dim-dim.ensures.width c.dim-dim.ensures.height ∙ is.sides in
    let head : c.as_slice.result.now ≡ head_of s.kind c.dim-dim.result = search rules in
    let samples : c.channels.result ≡ channels_of j.shape.kind = search rules in
    let lone : (k : TileKey) × IsTile j k = search rules in
    record {
      none = λ none. absurd (true≢false none);
      bands = λ none. absurd (true≢false none);
      whole = (image, is, c.in-Ok-send_raster.ensures.whole.0, c.in-Ok-send_raster.ensures.whole.1);
      held = held_itself d s.rows (channels_of j.shape.kind) (c.from.result * c.from-2.result * c.channels.result)
          (rw (high, wide, samples) refl);
      kept = (
        lone,
        all_samples image d (channels_of j.shape.kind) j.resolved.quality c.count_samples-kept.result c.count_samples-kept.ensures.count
            is.sides is.channels lone.1.1.keeps,
      );
      buffered = buffered_itself s (record {
        bytes = c.in-Ok-send_raster.bytes;
        held = c.from.result * c.from-2.result * c.channels.result;
        kept = c.count_samples-kept.result;
        buffered = length s.start.now + length c.as_slice.result.now;
      }) (length s.start.now) (length c.as_slice.result.now) refl refl
          (ap length (head ∙ ap (head_of s.kind) sides));
      stopped = tt;
    }

pub returns : goal.returns
returns g c =
    let s = c.args.sending.now in
    let image = c.deref.result.now.raster in
    let tm = g.A.Items.means c.args.context.now.tiles.now in
    let is : IsTileImage s.job.now tm image = search rules in
    record {
      none = λ none. absurd (true≢false none);
      bands = λ none. absurd (true≢false none);
      whole = tt;
      held = tt;
      kept = tt;
      buffered = tt;
      stopped = raster_stops g.W.Write.contents g.W.Outlet.fails s.job.now tm (g.A.Items.failed c.args.context.now.tiles.now) s.kind s.rows
          s.start.now image c.args.out.now c.send_raster.new.out c.in-Err-send_raster.stopped is c.in-Err-send_raster.ensures.stopped;
    }
