use Rattle.std.proofs.Common.{rules, sym}
use Rattle.std.proofs.lemmas.Result.{on_ok_weaker}
use Rattle.iiif_source.specs.Runs.{HoldsRuns}
use Rattle.iiif_source.proofs.Fitting.{runs_of_fitted}
use Rattle.iiif_open_files.proofs.path_source.PathSource.read_runs_of.Goals as goal

pub returns-then-branch-clause-runs : goal.returns-then-branch-clause-runs
returns-then-branch-clause-runs g c =
    let there : g.R.Opens.keeps c.args.self.now.path →
    HoldsRuns (g.R.Opens.holds c.args.self.now.path) c.args.runs c.args.runs.count c.read_ahead.new.buffer =
    rw (sym c.requires.path) (search rules) in
    λ keeps. on_ok_weaker c.check_unchanged.result
    (λ _. runs_of_fitted c.args.self.now.len (g.R.Opens.holds c.args.self.now.path) c.read_ahead.new.buffer c.args.runs c.requires.runs
    (there keeps)) c.check_unchanged.ensures.length
