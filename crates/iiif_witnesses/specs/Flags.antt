-- Items of which it is fixed which can't be had.
use Rattle.std.specs.Prelude.{◌≡◌, ℕ, Bool, false, true, get_or}
use Rattle.iiif_keys.specs.declared.fault.Fault.{Fault}
use Rattle.iiif_keys.specs.declared.fault.Fault.TheVariants as fault
use Rattle.iiif_witnesses.specs.declared.flags.Flags.{Flags}

-- an item can't be had
abbrev pub is_bad : Flags → ℕ → Bool
is_bad s k = get_or s.bad.now k false

-- an item can be had, whatever its value
abbrev pub IsGood : {V : Type 0} → Flags → ℕ → V → Type 0
IsGood s k v = is_bad s k ≡ false

-- the fault of an item that can't be had: a failed read at its place
abbrev pub FailsAt : Flags → ℕ → Fault → Type 0
FailsAt s k f = (is_bad s k ≡ true) × (f ≡ fault.Source (record { place = k; cause = 1 }))
