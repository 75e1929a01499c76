use Rattle.iiif_open_files.proofs.Copying.{copied}
use Rattle.iiif_open_files.proofs.wide_rows.WideRows.copy.Goals as goal

pub returns-clause-runs : goal.returns-clause-runs
returns-clause-runs g c = λ bytes held j i below within.
    copied bytes c.args.self.now.bytes c.args.self.now.runs c.args.runs _ j i c.requires.among below within held
    (c.in-Ok.ensures.runs_there tt j i below within)
