use Rattle.std.proofs.Common.{sym, ◌∙◌}
use Rattle.iiif_pixel.specs.Geometry.{channels_of}
use Rattle.iiif_tiff_read.proofs.Units.{units_row}
use Rattle.iiif_tiff_read.proofs.image.Image.row_bytes.Goals as goal

pub returns-clause-bytes : goal.returns-clause-bytes
returns-clause-bytes c = c.row_bytes.ensures.bytes ∙
    sym (units_row c.args.self.now.grid.width (channels_of c.args.self.now.format.kind) c.args.self.now.format.bits)
