use Rattle.iiif_machine.proofs.RunsRight.{each_run_is_right}
use Rattle.iiif_machine.proofs.laws.each_run_is_right.Goals as goal

pub returns : goal.returns
returns c = each_run_is_right
