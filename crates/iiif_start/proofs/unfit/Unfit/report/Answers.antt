use Rattle.std.proofs.Common.{◌≡◌, true, ℕ, List}
use Rattle.std.proofs.lemmas.Result.{on_ok_weaker}
use Rattle.std.specs.List.{list_all}
use Rattle.std.specs.Io.KnownBytes.{Appends}
use Rattle.iiif_advice.specs.Lines.{is_line_byte}
use Rattle.iiif_start.specs.Statuses.{unfit_number}
use Rattle.iiif_start.specs.Told.{unfit_lines}
use Rattle.iiif_start.proofs.unfit.Unfit.report.Goals as goal

pub returns : goal.returns
returns g c =
    on_ok_weaker {Q = (remedy : List ℕ) × (list_all is_line_byte remedy ≡ true) ×
    Appends (g.W.Write.contents c.args.out.now) (g.W.Write.contents c.put_lines.new.out)
    (unfit_lines c.args.name.0.now (unfit_number c.args.self.now) remedy)}
    _ (λ a. (c.remedy.result.now, c.remedy.ensures.one_line, a)) (rw c.number.ensures at c.put_lines.ensures)
