-- The program's statuses.
use Rattle.std.specs.Prelude.{ℕ, Bool, ◌&&◌, ◌==◌, not, length, List, Result, Ok, Err, if◌then◌else◌}
use Rattle.std.specs.List.{list_all, list_any}
use Rattle.std.specs.Result.{is_err}
use Rattle.iiif_tiff_read.specs.Faults.{open_number}
use Rattle.iiif_start.specs.declared.check.Checked.{Checked}
use Rattle.iiif_command_line.specs.declared.line.LineFault.{LineFault}
use Rattle.iiif_command_line.specs.declared.line.LineFault.TheVariants.{NoMemory}
use Rattle.iiif_start.specs.declared.stop.Stop.{Stop}
use Rattle.iiif_start.specs.declared.stop.Stop.TheVariants.{Image, Faulty, Memory, Write, Source, Listen, Cut, Record, Tell}
use Rattle.iiif_start.specs.declared.unfit.Unfit.{Unfit}
use Rattle.iiif_start.specs.declared.unfit.Unfit.TheVariants.{Closed, NotPlain, Refused, Unlisted, Differs}

-- 2 where an image is at fault, and 1 where the program failed while running
abbrev pub status_of : Stop → ℕ
status_of (Image name fault) = 2
status_of Faulty = 2
status_of Memory = 1
status_of Write = 1
status_of Source = 1
status_of (Listen reason) = 1
status_of Cut = 1
status_of Record = 1
status_of Tell = 1

-- of words that are at fault: 1 where memory runs out, else 2
abbrev pub status_of_words : LineFault → ℕ
status_of_words NoMemory = 1
status_of_words fault = 2

-- the number of an image's fault: 0 where its file can't be opened, is none or isn't the listed one, else the reader's
abbrev pub unfit_number : Unfit → ℕ
unfit_number (Closed reason) = 0
unfit_number NotPlain = 0
unfit_number (Refused fault) = open_number fault
unfit_number Unlisted = 0
unfit_number Differs = 0

-- whether one of the images that were looked at can't be served
abbrev pub has_unfit : List Checked → Bool
has_unfit images = list_any (λ c. is_err c.found) images

-- whether each of them can't be served
abbrev pub are_unfit : List Checked → Bool
are_unfit images = list_all (λ c. is_err c.found) images

-- so there are none but those, and there is one
abbrev pub has_unfit_alone : List Checked → Bool
has_unfit_alone images = not (length images == 0) && are_unfit images

-- how a check of images ends: well where each of them can be served, or one, where those that can't are left out
abbrev pub end_of : List Checked → Bool → Result (Unit {0}) Stop
end_of images skip_unfit = if (if skip_unfit then has_unfit_alone images else has_unfit images) then Err Faulty else Ok tt
