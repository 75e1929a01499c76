-- Keys whose values are made of those of others.
use Rattle.std.specs.Prelude.{◌≡◌, ℕ, ◌<◌, ◌≤◌, ◌⊎◌, List, ◌∷◌, ◌++◌, All, length, map}
use Rattle.std.specs.Arc.{arc_value}
use Rattle.std.specs.List.{AllZip}
use Rattle.std.specs.declared.alloc.Global.{Global}
use Rattle.std.specs.declared.sync.Arc.{Arc}
use Rattle.iiif_keys.specs.declared.fault.Fault.{Fault}
use Rattle.iiif_keys.specs.declared.fault.Fault.TheVariants.{NoMemory}
use Rattle.iiif_assemble.specs.declared.opened.Opened.{Opened}
use Rattle.iiif_assemble.specs.declared.opened.Opened.TheVariants.{Known, Parts}

-- The value of a key may be made of that of another: this may be asked for, is of lower rank, and where it fails the first does.
pub record IsPart {K : Type 0} (may : K → Type 0) (rank : K → ℕ) (failed : K → Fault → Type 0) (key part : K) : Type 0 where
  pub fits : may part
  pub lower : rank part < rank key
  pub fails : (f : Fault) → failed part f → failed key f

-- the value of each of the parts, in their order
abbrev pub AreValuesOf : {K V : Type 0} → (K → V → Type 0) → List K → List (Arc V Global) → Type 0
AreValuesOf means parts values = AllZip means parts (map arc_value values)

-- what a value can't be made for: lack of memory, or what the load came to
abbrev pub IsFaultOf : {K : Type 0} → (K → Fault → Type 0) → K → Fault → Type 0
IsFaultOf failed key f = (f ≡ NoMemory) ⊎ failed key f

-- The fault is that of a part all of whose predecessors gave values.
pub record FirstPartFailed {K V : Type 0} (means : K → V → Type 0) (failed : K → Fault → Type 0) (parts : List K) (fault : Fault) : Type 0
  where
    pub before : List K
    pub part : K
    pub after : List K
    pub are : parts ≡ before ++ part ∷ after
    pub gave : All (λ k. (v : V) × means k v) before
    pub fault_of : failed part fault

-- what these parts have no values for: lack of memory, or the first fault
abbrev pub IsPartsFault : {K V : Type 0} → (K → V → Type 0) → (K → Fault → Type 0) → List K → Fault → Type 0
IsPartsFault means failed parts fault = (fault ≡ NoMemory) ⊎ FirstPartFailed means failed parts fault

-- what a key is made of, with its value or without
abbrev pub IsOpened : {K V O : Type 0} → (K → Type 0) → (K → V → Type 0) → (K → ℕ) → (K → Fault → Type 0) → (O → K → List K → Type 0) → K →
    Opened K V O → Type 0
IsOpened may means rank failed is_open key (Known v) = means key (arc_value v)
IsOpened may means rank failed is_open key (Parts o parts) =
    is_open o key parts.items × All (IsPart may rank failed key) parts.items × (length parts.items ≤ 4)
