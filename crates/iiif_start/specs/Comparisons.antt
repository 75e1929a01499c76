-- Images' files, compared with the digests that a bag lists.
use Rattle.std.specs.Prelude.{Bool, true, false, Result, Ok, Err}
use Rattle.iiif_start.specs.declared.check.Comparison.{Comparison}
use Rattle.iiif_start.specs.declared.check.Comparison.TheVariants.{Same, Different, Absent}
use Rattle.iiif_start.specs.declared.check.Found.{Found}
use Rattle.iiif_start.specs.declared.unfit.Unfit.{Unfit}
use Rattle.iiif_start.specs.declared.unfit.Unfit.TheVariants.{Closed, NotPlain, Refused, Unlisted, Differs}

-- whether that came of an image that was looked at
abbrev pub has_come_to : Comparison → Result Found Unfit → Bool
has_come_to Same (Ok found) = found.is_listed
has_come_to Same (Err unfit) = false
has_come_to Different (Err Differs) = true
has_come_to Different other = false
has_come_to Absent (Err Unlisted) = true
has_come_to Absent other = false
