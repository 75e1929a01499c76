use Rattle.std.proofs.Common.{◌∙◌, ap, rules}
use Rattle.iiif_tiff_write.specs.File.{file_len}
use Rattle.iiif_tiff_write.proofs.Lengths.{length-file}
use Rattle.iiif_tiff_write.proofs.layout.total_len.Goals as goal

pub returns-clause-of_file : goal.returns-clause-of_file
returns-clause-of_file c = λ p sides. length-file c.args.kind p ∙ ap (file_len c.args.kind) sides ∙ search rules
