use Rattle.std.proofs.Common.{rules, ◌≡◌, string_bytes}
use Rattle.std.specs.Arc.{arc_value}
use Rattle.iiif_source.proofs.Fitting.{runs_of_held}
use Rattle.iiif_open_files.proofs.wide_rows.WideRows.read.Goals as goal

pub invariant_of-result-clause-there : goal.invariant_of-result-clause-there
invariant_of-result-clause-there g c =
    let same : string_bytes (arc_value c.in-Ok.path) ≡ string_bytes (arc_value c.args.opening.now.file.path) = search rules in
    rw same (λ keeps. runs_of_held c.args.len (g.R.Opens.holds (string_bytes (arc_value c.args.opening.now.file.path))) _ c.args.runs
    c.requires ((rw c.in-Some.is at c.in_ok-bytes.ensures.there) keeps))
