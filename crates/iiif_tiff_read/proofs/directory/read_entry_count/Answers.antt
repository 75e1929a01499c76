use Rattle.std.proofs.Common.{arith}
use Rattle.iiif_tiff_read.proofs.Bytes.{directory_in_file}
use Rattle.iiif_tiff_read.specs.Code.{endian}
use Rattle.iiif_tiff_read.proofs.directory.read_entry_count.Goals as goal

pub returns-clause-count : goal.returns-clause-count
returns-clause-count g c = λ p.
    directory_in_file (endian c.args.header.order) (g.S.Source.bytes c.args.source.now) c.args.header.directory c.in_ok-count.count
    p.1.order_is
    p.1.directory_is
    (c.in_ok-count.ensures.value p.0) (omega arith) (omega arith)
