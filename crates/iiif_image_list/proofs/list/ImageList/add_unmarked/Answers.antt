use Rattle.std.proofs.Common.{subst}
use Rattle.std.specs.Prelude.{IfErr}
use Rattle.std.specs.Str.Lines.{lines}
use Rattle.iiif_image_list.specs.Lists.{EndsAtLine}
use Rattle.iiif_image_list.proofs.list.ImageList.add_unmarked.Goals as goal

pub returns-in-Ok-clause-line : goal.returns-in-Ok-clause-line
returns-in-Ok-clause-line c utf8 =
    subst (λ t. IfErr c.add_lines.result (λ f. EndsAtLine c.args.self.now (lines t) f.line f.fault c.add_lines.new.self))
    c.in-Ok.ensures.cases.0 c.add_lines.ensures.ends
