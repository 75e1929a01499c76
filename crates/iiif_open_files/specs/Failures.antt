-- Why a read failed, as it is told.
use Rattle.std.specs.Prelude.{ℕ, List, codes}
use Rattle.iiif_open_files.specs.declared.read_failures.FailureReason.{FailureReason}
use Rattle.iiif_open_files.specs.declared.read_failures.FailureReason.TheVariants.{Missing, Denied, TooManyFiles, Unopened, Changed, Shorter, Refused}

-- the word for a reason
abbrev pub reason_text : FailureReason → List ℕ
reason_text Missing = codes "missing"
reason_text Denied = codes "denied"
reason_text TooManyFiles = codes "too-many-files"
reason_text Unopened = codes "unopened"
reason_text Changed = codes "changed"
reason_text Shorter = codes "shorter"
reason_text Refused = codes "refused"
