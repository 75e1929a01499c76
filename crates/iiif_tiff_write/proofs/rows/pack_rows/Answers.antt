use Rattle.std.proofs.Common.{◌≡◌, ◌∙◌, length, refl, arith, ap}
use Rattle.std.specs.Int.{div_ceil}
use Rattle.std.proofs.lemmas.List.{append-nil}
use Rattle.iiif_tiff_write.specs.declared.kind.OutKind.TheVariants.{Bitonal}
use Rattle.iiif_tiff_write.proofs.PackingLemmas.{length-row_span, rows_before_push, room_more, rows_before_none, rows_before_all}
use Rattle.iiif_tiff_write.proofs.rows.pack_rows.Goals as goal

pub loop-y-init : goal.loop-y-init
loop-y-init c = record {
  bytes = rw (rows_before_none Bitonal c.args.raster.now, append-nil) refl;
  len = omega arith;
  capacity = refl;
}

pub pack_row-requires : goal.pack_row-requires
pack_row-requires c =
    let p = c.args.raster.now in
    let whole : length c.bytes_of.result.now ≡ p.width =
    length-row_span p c.loop-y.y c.dim-dim.result.w c.bytes_of.result.now c.requires.channels c.dim-dim.ensures.width
    (c.bytes_of.ensures ∙ c.span.ensures.samples) in
    rw whole (omega (
      arith,
      room_more (div_ceil p.width 8) c.loop-y.y p.height _ _ _ c.loop-y.invariant.len c.requires.room
          (omega (arith, c.dim-dim.ensures.height)),
    ))

pub loop-y-preserved : goal.loop-y-preserved
loop-y-preserved c =
    let p = c.args.raster.now in
    let whole : length c.bytes_of.result.now ≡ p.width =
    length-row_span p c.loop-y.y c.dim-dim.result.w c.bytes_of.result.now c.requires.channels c.dim-dim.ensures.width
    (c.bytes_of.ensures ∙ c.span.ensures.samples) in
    record {
      bytes =
          rows_before_push p c.loop-y.y c.dim-dim.result.w c.args.out.now.items c.loop-y.out.items c.pack_row.new.out.items
          c.bytes_of.result.now
          c.requires.channels c.requires.top c.dim-dim.ensures.width (c.bytes_of.ensures ∙ c.span.ensures.samples) c.loop-y.invariant.bytes
          c.pack_row.ensures.bytes;
      len = omega (arith, ap (λ n. div_ceil n 8) whole);
      capacity = omega arith;
    }

pub returns : goal.returns
returns c =
    let done : c.loop-y.y ≡ c.args.raster.now.height = omega (arith, c.dim-dim.ensures.height) in
    c.loop-y.invariant.bytes ∙ rw (done, rows_before_all Bitonal c.args.raster.now) refl
