-- Faults of loads.
use Rattle.std.proofs.Common.{ℕ, Bool, List, refl, sym, ◌∙◌}
use Rattle.std.specs.Prelude.{IsTrue}
use Rattle.iiif_source.specs.declared.ReadFault.{ReadFault}
use Rattle.iiif_keys.specs.Blocks.{NamesPart}
use Rattle.iiif_keys.specs.Names.{Pictures}
use Rattle.iiif_keys.specs.declared.fault.Fault.{Fault}
use Rattle.iiif_keys.specs.declared.fault.Fault.TheVariants.{Source, NoMemory, UnknownName, BadKey}
use Rattle.iiif_keys.specs.declared.keys.Shape.{Shape}
use Rattle.iiif_outcome.specs.Outcomes.{is_given}
use Rattle.iiif_tile_group.specs.Faults.{IsLoadFault}

-- The load of a key that names something has no fault but one that is given.
pub given_of_load : (shows : Pictures) (edge : ℕ) (name : List ℕ) (own : ℕ) (fits_in : Shape → Type 0) (gave : ReadFault → Bool) (f : Fault)
    → NamesPart shows edge name own fits_in → IsLoadFault shows edge name own fits_in gave f → IsTrue (is_given gave f)
given_of_load shows edge name own fits_in gave (Source f) names fault = fault.1
given_of_load shows edge name own fits_in gave NoMemory names fault = refl
given_of_load shows edge name own fits_in gave UnknownName names fault = absurd (let e = sym names.known ∙ fault in cc)
given_of_load shows edge name own fits_in gave BadKey names fault = absurd (fault.1 names)
