-- Why a key has no value.
use Rattle.std.specs.Prelude.{◌≡◌, ℕ, Bool, List, None, IsSome, IsTrue}
use Rattle.iiif_source.specs.declared.ReadFault.{ReadFault}
use Rattle.iiif_keys.specs.Names.{Pictures}
use Rattle.iiif_keys.specs.Blocks.{NamesPart}
use Rattle.iiif_keys.specs.declared.keys.Shape.{Shape}
use Rattle.iiif_keys.specs.declared.fault.Fault.{Fault}
use Rattle.iiif_keys.specs.declared.fault.Fault.TheVariants.{Source, NoMemory, UnknownName, BadKey}

-- Why a key names nothing: no picture has its name; else the key is of another edge, or doesn't fit the picture.
abbrev pub IsKeyFault : Pictures → ℕ → List ℕ → ℕ → (Shape → Type 0) → Fault → Type 0
IsKeyFault shows edge name own fits_in UnknownName = shows name ≡ None
IsKeyFault shows edge name own fits_in BadKey = IsSome (shows name) × ¬ (NamesPart shows edge name own fits_in)
IsKeyFault shows edge name own fits_in (Source f) = ⊥
IsKeyFault shows edge name own fits_in NoMemory = ⊥

-- Why a load gives no value: the key names nothing; or it names something, and its source gave that fault, or memory ran out.
abbrev pub IsLoadFault : Pictures → ℕ → List ℕ → ℕ → (Shape → Type 0) → (ReadFault → Bool) → Fault → Type 0
IsLoadFault shows edge name own fits_in gave UnknownName = shows name ≡ None
IsLoadFault shows edge name own fits_in gave BadKey = IsSome (shows name) × ¬ (NamesPart shows edge name own fits_in)
IsLoadFault shows edge name own fits_in gave (Source f) = NamesPart shows edge name own fits_in × IsTrue (gave f)
IsLoadFault shows edge name own fits_in gave NoMemory = NamesPart shows edge name own fits_in

-- Why a call answers no receipt: the key names nothing; or it names something, and memory ran out.
abbrev pub IsGetFault : Pictures → ℕ → List ℕ → ℕ → (Shape → Type 0) → Fault → Type 0
IsGetFault shows edge name own fits_in UnknownName = shows name ≡ None
IsGetFault shows edge name own fits_in BadKey = IsSome (shows name) × ¬ (NamesPart shows edge name own fits_in)
IsGetFault shows edge name own fits_in (Source f) = ⊥
IsGetFault shows edge name own fits_in NoMemory = NamesPart shows edge name own fits_in
