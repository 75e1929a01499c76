use Rattle.std.proofs.Common.{◌∙◌, sym}
use Rattle.iiif_tiff_write.proofs.PackingLemmas.{strip_8_bits}
use Rattle.iiif_tiff_write.proofs.rows.byte_rows.Goals as goal

pub returns : goal.returns
returns c = c.bytes_of.ensures ∙ c.samples.ensures.all ∙
    sym (strip_8_bits c.args.raster.now c.args.kind c.is_whole.ensures.whole c.requires.channels c.requires.kind)
