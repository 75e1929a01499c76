-- What the words of a line have, and when a call says that they are bad.
use Rattle.std.specs.Prelude.{◌≡◌, ◌+◌, ◌<◌, ◌^◌, ℕ, List, Bool, true, ◌||◌, codes, drop, length, Result, Ok, Err}
use Rattle.std.specs.Prelude.{if◌then◌else◌}
use Rattle.std.specs.List.{AllByRecursion}
use Rattle.std.specs.Str.{bytes_eq}
use Rattle.iiif_keys.specs.Names.{is_name}
use Rattle.iiif_machine.specs.declared.keys.Key.{Key}
use Rattle.iiif_machine.specs.Types.{Request}
use Rattle.iiif_event_list.specs.declared.fault.LineFault.{LineFault}
use Rattle.iiif_event_list.specs.declared.fault.LineFault.TheVariants.{Bad, NoMemory}
use Rattle.iiif_event_list.specs.Spellings.{LineWords, WordAt, NameAt, NumberAt, IsRequestAt, IsKey, AreKeys, FitsKey}

-- a fault is `Bad` only where this isn't so
abbrev pub IsBadUnless : Type 0 → LineFault → Type 0
IsBadUnless P Bad = ¬ P
IsBadUnless P NoMemory = Unit {0}

-- an answer is `Bad` only where this isn't so
abbrev pub BadUnless : {T : Type 0} → Type 0 → Result T LineFault → Type 0
BadUnless P (Ok x) = Unit {0}
BadUnless P (Err f) = IsBadUnless P f

-- an answer is never `Bad`
abbrev pub NeverBad : {T : Type 0} → Result T LineFault → Type 0
NeverBad r = ¬ (r ≡ Err Bad)

abbrev pub HasWord : LineWords → ℕ → Type 0
HasWord ws i = (w : List ℕ) × WordAt ws i w

-- the word at a place is a number of so many bits
abbrev pub HasNumber : LineWords → ℕ → ℕ → Type 0
HasNumber ws i bits = (n : ℕ) × NumberAt ws i n × (n < 2 ^ bits)

abbrev pub HasName : LineWords → ℕ → Type 0
HasName ws i = (name : List ℕ) × NameAt ws i name × (is_name name ≡ true)

abbrev pub HasRequest : LineWords → ℕ → Type 0
HasRequest ws i = (q : Request) × IsRequestAt ws i q

abbrev pub HasSides : LineWords → ℕ → Type 0
HasSides ws i = HasNumber ws i 32 × HasNumber ws (i + 1) 32

abbrev pub HasRect : LineWords → ℕ → Type 0
HasRect ws i = HasNumber ws i 32 × HasNumber ws (i + 1) 32 × HasNumber ws (i + 2) 32 × HasNumber ws (i + 3) 32

-- what stands behind `tile`
abbrev pub HasTile : LineWords → Type 0
HasTile ws = HasName ws 1 × HasNumber ws 2 32 × HasNumber ws 3 32 × HasNumber ws 4 32

-- what stands behind `sum`
abbrev pub HasSum : LineWords → Type 0
HasSum ws = HasName ws 1 × HasNumber ws 2 32 × HasRect ws 3 × HasSides ws 7 × HasNumber ws 9 8 × HasNumber ws 10 32 × HasNumber ws 11 32

abbrev pub HasKey : LineWords → Type 0
HasKey ws = (k : Key) × FitsKey k × IsKey ws k

abbrev pub HasKeys : LineWords → Type 0
HasKeys ws = (ks : List Key) × AllByRecursion FitsKey ks × AreKeys ws ks

-- what stands behind the name of an event
abbrev pub HasOne : LineWords → Type 0
HasOne ws = (length ws ≡ 2) × HasNumber ws 1 64

abbrev pub HasWant : LineWords → Type 0
HasWant ws = (length ws ≡ 7) × HasNumber ws 1 64 × HasName ws 2 × HasRequest ws 3

abbrev pub HasTake : LineWords → Type 0
HasTake ws = (length ws ≡ 3) × HasNumber ws 1 64 × HasNumber ws 2 64

abbrev pub HasSourceFault : LineWords → Type 0
HasSourceFault ws = (length ws ≡ 4) × HasNumber ws 1 64 × HasNumber ws 2 64 × HasNumber ws 3 8

abbrev pub HasLand : LineWords → Type 0
HasLand ws = (length ws ≡ 3) × HasNumber ws 1 64 × (kept : Bool) × WordAt ws 2 (if kept then codes "kept" else codes "dropped")

abbrev pub HasEvict : LineWords → Type 0
HasEvict ws = HasNumber ws 1 64 × HasKeys (drop 2 ws)

-- the name of an event that has a number alone
abbrev pub is_numbered : List ℕ → Bool
is_numbered name =
    bytes_eq name (codes "enter") || bytes_eq name (codes "again") || bytes_eq name (codes "ask_peer") || bytes_eq name (codes "serve")
    || bytes_eq name (codes "reply") || bytes_eq name (codes "lose") || bytes_eq name (codes "go_local") || bytes_eq name (codes "load")
    || bytes_eq name (codes "stop")
