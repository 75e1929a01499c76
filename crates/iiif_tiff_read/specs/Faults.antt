-- Answers of opening a file, and faults of opening and reading.
--   premise       the source keeps its bytes: without it nothing is said of what they are
--   gave          the faults that the source gave
--   check         the first refusal of the file's checks, or none
--   IsOpenFault   a fault that a file with that check may have
--   Answers       a value or a fault, as the check decides
--   IsLoadFault   a fault that reading a rectangle may have
use Rattle.std.specs.Prelude.{◌≡◌, ℕ, Bool, IsTrue, Option, Some, None, Result, Ok, Err}
use Rattle.iiif_tiff.specs.Tiff.{Refusal, NotTiff, Truncated, Missing, Unsupported, BadField, TooLarge}
use Rattle.iiif_source.specs.declared.ReadFault.{ReadFault}
use Rattle.iiif_tiff_read.specs.declared.fault.OpenFault.{OpenFault}
use Rattle.iiif_tiff_read.specs.declared.fault.OpenFault.TheVariants as opens
use Rattle.iiif_tiff_read.specs.declared.fault.LoadFault.{LoadFault}
use Rattle.iiif_tiff_read.specs.declared.fault.LoadFault.TheVariants as loads

-- The fault is the refusal that the checks name, where the premise holds; or one that the device gave; or lack of memory.
abbrev pub IsOpenFault : Type 0 → (ReadFault → Bool) → Option Refusal → OpenFault → Type 0
IsOpenFault premise gave check opens.NotTiff = premise → check ≡ Some NotTiff
IsOpenFault premise gave check opens.Truncated = premise → check ≡ Some Truncated
IsOpenFault premise gave check (opens.Missing tag) = premise → check ≡ Some (Missing tag)
IsOpenFault premise gave check (opens.Unsupported tag) = premise → check ≡ Some (Unsupported tag)
IsOpenFault premise gave check (opens.BadField tag) = premise → check ≡ Some (BadField tag)
IsOpenFault premise gave check opens.TooLarge = premise → check ≡ Some TooLarge
IsOpenFault premise gave check (opens.Source f) = IsTrue (gave f)
IsOpenFault premise gave check opens.NoMemory = Unit {0}

-- A value comes only where the checks name no refusal, and is right, where the premise holds; else such a fault.
abbrev pub Answers : {X : Type 0} → Type 0 → (ReadFault → Bool) → Option Refusal → (X → Type 0) → Result X OpenFault → Type 0
Answers premise gave check Right (Ok x) = premise → (check ≡ None) × Right x
Answers premise gave check Right (Err e) = IsOpenFault premise gave check e

-- The fault is one that the device gave, or lack of memory.
abbrev pub IsLoadFault : (ReadFault → Bool) → LoadFault → Type 0
IsLoadFault gave (loads.Source f) = IsTrue (gave f)
IsLoadFault gave loads.NoMemory = Unit {0}

-- The number of a fault of opening, by which a program reports it.
abbrev pub open_number : OpenFault → ℕ
open_number opens.NotTiff = 1
open_number opens.Truncated = 2
open_number (opens.Missing tag) = 3
open_number (opens.Unsupported tag) = 4
open_number (opens.BadField tag) = 5
open_number opens.TooLarge = 6
open_number (opens.Source f) = 7
open_number opens.NoMemory = 8

-- The number of a fault of reading.
abbrev pub load_number : LoadFault → ℕ
load_number (loads.Source f) = 1
load_number loads.NoMemory = 2
