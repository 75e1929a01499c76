-- One list of a cache, and what its calls do. How keys and values are measured and compared stands in the list's type.
--   IsOf                          an entry of a key
--   rows_in, found_in, has_key    what a list shows, what it keeps for a key, and whether it does
--   IsBlank, AreKeys              an empty list, and the keys of a list
--   HitsIn, Fronts                a hit, and moving an entry to the front
--   Weighs, Pushes, Pops          an entry that can be pushed, pushing it, and taking the oldest out
use Rattle.std.specs.Prelude.{◌≡◌, ℕ, ◌+◌, ◌^◌, ◌<◌, ◌≤◌, Bool, false, IsTrue, List, [], map, Option, option_map, is_some, Result}
use Rattle.std.specs.Prelude.{IfErr, IfOk, IfSome, OnErr, OnOk}
use Rattle.std.specs.NonZero.{non_zero_usize_get}
use Rattle.std.specs.Map.{lookup}
use Rattle.std.specs.declared.cmp.PartialEq as partial_eq
use Rattle.std.specs.declared.num.NonZeroUsize.{NonZeroUsize}
use Rattle.std.specs.declared.vec.Vec.{Vec}
use Rattle.iiif_tables.specs.Cache.{Kept, but_oldest, oldest as last_used, to_front}
use Rattle.iiif_keys.specs.declared.cache_key.CacheKey as cache_key
use Rattle.iiif_outcome.specs.Views.{entry_size, is_of, kept_of}
use Rattle.iiif_outcome.specs.declared.entry.Entry.{Entry}
use Rattle.iiif_byte_cache.specs.Rows.{pushed, rows}
use Rattle.iiif_byte_cache.specs.declared.recent.Recent.{Recent}

module _ {K J L V : Type 0} {a : cache_key.Ghosts K V} {b : partial_eq.Ghosts K} {c d : _} where
  -- an entry of this key
  abbrev pub IsOf : K → Entry K J L V a b c d → Type 0
  IsOf key entry = IsTrue (is_of b.eq key entry)

  -- the rows that a list shows, its keys in order, the entry that it keeps for a key, and whether it keeps one
  abbrev pub rows_in : Recent K J L V a b c d → List (K × Kept V)
  rows_in list = rows kept_of list.list.entries

  abbrev pub AreKeys : {A : Type 0} → Recent K J L V a b c d → Vec K A → Type 0
  AreKeys list keys = keys.items ≡ map (λ e. e.0) (rows_in list)

  abbrev pub found_in : Recent K J L V a b c d → K → Option (Kept V)
  found_in list key = lookup (b.eq key) (rows_in list)

  abbrev pub has_key : Recent K J L V a b c d → K → Bool
  has_key list key = is_some (found_in list key)

  -- a list without entries, with room for so many
  pub record IsBlank (most : NonZeroUsize) (list : Recent K J L V a b c d) : Type 0 where
    pub entries : list.list.entries ≡ []
    pub bytes : list.bytes ≡ 0
    pub room : list.list.cap ≡ non_zero_usize_get most

  -- a list keeps its bytes and its room
  abbrev pub SameSize : Recent K J L V a b c d → Recent K J L V a b c d → Type 0
  SameSize old new = (new.bytes ≡ old.bytes) × (new.list.cap ≡ old.list.cap)

  -- the entry that a list keeps for the key is shared, and stays where it is
  pub record HitsIn {E : Type 0} (key : K) (old new : Recent K J L V a b c d) (result : Result (Option (Entry K J L V a b c d)) E)
      : Type 0 where
    pub told : IfOk result (λ h. option_map kept_of h ≡ found_in old key)
    pub of_key : IfOk result (λ o. IfSome o (IsOf key))
    pub refused : OnErr result (IsTrue (has_key old key))
    pub rows : rows_in new ≡ rows_in old
    pub same : SameSize old new

  -- the key's entry goes to the front, where there is one
  pub record Fronts (key : K) (old new : Recent K J L V a b c d) (found : Bool) : Type 0 where
    pub there : found ≡ has_key old key
    pub rows : rows_in new ≡ to_front b.eq key (rows_in old)
    pub same : SameSize old new

  -- an entry of this key takes so many bytes, and with those before it they can be counted
  pub record Weighs (key : K) (entry : Entry K J L V a b c d) (bytes before : ℕ) : Type 0 where
    pub of_key : IsOf key entry
    pub size : bytes ≡ entry_size a.key_bytes a.val_bytes key (kept_of entry).value
    pub fits : before + bytes < 2 ^ 64

  -- an entry goes to the front of a list; or it is handed back, and nothing changes
  pub record Pushes {A : Type 0} (key : K) (entry : Entry K J L V a b c d) (size : ℕ) (old new : Recent K J L V a b c d)
      (result : Result A (K × Entry K J L V a b c d)) : Type 0 where
    pub ok : OnOk result (rows_in new ≡ pushed b.eq old.list.cap key (kept_of entry) (rows_in old))
    pub bytes : OnOk result (new.bytes ≤ old.bytes + size)
    pub err : OnErr result (rows_in new ≡ rows_in old)
    pub same : OnErr result (new.bytes ≡ old.bytes)
    pub room : new.list.cap ≡ old.list.cap
    pub back : IfErr result (λ p. p ≡ (key, entry))
    pub absent : OnErr result (has_key old key ≡ false)

  -- the entry that was used longest ago is taken out
  pub record Pops (old new : Recent K J L V a b c d) (out : Option (K × Entry K J L V a b c d)) : Type 0 where
    pub oldest : option_map (λ e. (e.0, kept_of e.1)) out ≡ last_used (rows_in old)
    pub rows : rows_in new ≡ but_oldest (rows_in old)
    pub bytes : new.bytes ≤ old.bytes
    pub room : new.list.cap ≡ old.list.cap
