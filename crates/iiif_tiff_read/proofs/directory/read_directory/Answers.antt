use Rattle.std.proofs.Common.{◌+◌, ◌∙◌}
use Rattle.iiif_tiff_read.proofs.Bytes.{entries_read}
use Rattle.iiif_tiff_read.proofs.directory.read_directory.Goals as goal

pub returns-clause-entries : goal.returns-clause-entries
returns-clause-entries g c = λ p.
    let there = c.in_ok-count.ensures.count p in (
      there.0,
      entries_read (g.S.Source.bytes c.args.source.now) c.args.header.directory c.in_ok-count.count _ p.1.directory_is there.1
          (c.in_ok-decode_entries.ensures (g.S.Source.bytes c.args.source.now) (c.args.header.directory + 2) p.1.order_is
          (c.deref.ensures.value ∙ c.in_ok-bytes.ensures.bytes p.0)),
    )
