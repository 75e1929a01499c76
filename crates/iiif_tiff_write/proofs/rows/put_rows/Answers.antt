use Rattle.std.proofs.Common.{◌≡◌, sym, rules}
use Rattle.std.specs.Int.{to_le_bytes, w16}
use Rattle.std.specs.List.{flat_map}
use Rattle.iiif_tiff_write.specs.File.{strip}
use Rattle.iiif_tiff_write.proofs.PackingLemmas.{strip_16_bits}
use Rattle.iiif_tiff_write.proofs.rows.put_rows.Goals as goal

pub returns-in-Gray : goal.returns-in-Gray
returns-in-Gray c =
    let same : strip c.args.kind c.args.raster.now ≡ c.byte_rows.result.now = sym c.byte_rows.ensures in
    record {
      rows = rw same (search rules);
      err = search rules;
    }

pub returns-in-Gray16 : goal.returns-in-Gray16
returns-in-Gray16 c =
    let same : strip c.args.kind c.args.raster.now ≡ flat_map (to_le_bytes w16) c.shorts_of.result.now =
    rw (c.shorts_of.ensures, c.samples.ensures.all)
    (strip_16_bits c.args.raster.now c.args.kind c.is_whole.ensures.whole c.requires.channels c.in-Gray16.is) in
    record {
      rows = rw same (search rules);
      err = search rules;
    }
