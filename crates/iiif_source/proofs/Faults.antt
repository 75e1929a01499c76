-- Lemmas on faults of files: their cause and their offset.
use Rattle.std.proofs.Common.{ℕ, Bool, true, false, ◌&&◌, IsTrue, arith}
use Rattle.std.specs.Prelude.{Result, IfErr}
use Rattle.std.proofs.lemmas.Result.{IfErr-weaker}
use Rattle.iiif_source.specs.Cause.{is_of_file}
use Rattle.iiif_source.specs.Runs.{AreIn, BeginsAt}
use Rattle.iiif_source.specs.declared.ReadFault.{ReadFault}
use Rattle.iiif_source.specs.declared.Runs.{Runs}

right_of : (a b : Bool) → IsTrue (a && b) → IsTrue b
right_of true b both = both
right_of false b both = cc

-- a fault of a file's read has a cause of files
pub by_cause : {A : Type 0} (result : Result A ReadFault) (had : ReadFault → Bool) → IfErr result (λ f. IsTrue (had f && is_of_file f)) →
    IfErr result (λ f. IsTrue (is_of_file f))
by_cause result had given =
    IfErr-weaker result (λ f. IsTrue (had f && is_of_file f)) (λ f. IsTrue (is_of_file f)) (λ f both. right_of (had f) (is_of_file f) both)
    given

-- the first run begins where the runs do
pub first_begins : (n : ℕ) (runs : Runs) → AreIn n runs → BeginsAt runs runs.at
first_begins n runs inside = (0, inside.some, omega arith)
