-- The two lists of a cache, and what its calls do to them.
--   two_lists, bytes_of_both    the lists as tables have them, and how many bytes they take
--   CanCount, SameRoom          a counter has room for their bytes, and each list keeps its own room
--   Evicts, Shrinks             taking the next entry out, and taking out as many as need be
--   CanPlace, Places            an entry that can be placed, and placing it
use Rattle.std.specs.Prelude.{◌≡◌, ℕ, ◌+◌, ◌^◌, ◌<◌, ◌≤◌, Bool, false, Option, option_map, is_some, Result, IfErr, OnErr, OnOk}
use Rattle.std.specs.declared.cmp.PartialEq as partial_eq
use Rattle.iiif_tables.specs.Cache.{Cache, evict, kept_for, placed, shrink, victim as next_out}
use Rattle.iiif_keys.specs.declared.cache_key.CacheKey as cache_key
use Rattle.iiif_outcome.specs.Views.{entry_size, kept_of}
use Rattle.iiif_outcome.specs.declared.entry.Entry.{Entry}
use Rattle.iiif_byte_cache.specs.OneList.{Weighs}
use Rattle.iiif_byte_cache.specs.View.{lists_of, side}
use Rattle.iiif_byte_cache.specs.declared.lists.Lists.{Lists}

module _ {K J L V : Type 0} {a : cache_key.Ghosts K V} {b : partial_eq.Ghosts K} {c d : _} where
  -- main and hot, with a limit that is no part of them; how many bytes they take, and that a counter has room for them; and that each
  -- list keeps its own room
  abbrev pub two_lists : Lists K J L V a b c d → ℕ → Cache K V
  two_lists both limit = lists_of both.main both.hot limit

  abbrev pub bytes_of_both : Lists K J L V a b c d → ℕ
  bytes_of_both both = both.main.bytes + both.hot.bytes

  abbrev pub CanCount : Lists K J L V a b c d → Type 0
  CanCount both = bytes_of_both both < 2 ^ 64

  abbrev pub SameRoom : Lists K J L V a b c d → Lists K J L V a b c d → Type 0
  SameRoom old new = (new.main.list.cap ≡ old.main.list.cap) × (new.hot.list.cap ≡ old.hot.list.cap)

  -- the entry that goes next is taken out of one of two lists
  pub record Evicts (old new : Lists K J L V a b c d) (out : Option (K × Entry K J L V a b c d)) : Type 0 where
    pub victim : (limit : ℕ) → option_map (λ e. (e.0, kept_of e.1)) out ≡
        next_out (entry_size a.key_bytes a.val_bytes) (two_lists old limit)
    pub rest : (limit : ℕ) → two_lists new limit ≡ evict (entry_size a.key_bytes a.val_bytes) (two_lists old limit)
    pub room : SameRoom old new
    pub bytes : bytes_of_both new ≤ bytes_of_both old

  -- an entry of this size can be placed: it can be counted with the others, and the lists have the same room
  pub record CanPlace (key : K) (entry : Entry K J L V a b c d) (size : ℕ) (both : Lists K J L V a b c d) : Type 0 where
    pub weighs : Weighs key entry size (bytes_of_both both)
    pub room : both.hot.list.cap ≡ both.main.list.cap

  -- an entry goes to the front of the list that has its key, else of this one; or it is handed back, and nothing changes
  pub record Places {A : Type 0} (for_hot : Bool) (key : K) (entry : Entry K J L V a b c d) (size : ℕ)
      (old new : Lists K J L V a b c d) (result : Result A (K × Entry K J L V a b c d)) : Type 0 where
    pub ok : (limit : ℕ) → OnOk result (two_lists new limit ≡ placed b.eq key (side for_hot) (kept_of entry) (two_lists old limit))
    pub bytes : OnOk result (bytes_of_both new ≤ bytes_of_both old + size)
    pub err : (limit : ℕ) → OnErr result (two_lists new limit ≡ two_lists old limit)
    pub err_bytes : OnErr result ((new.main.bytes ≡ old.main.bytes) × (new.hot.bytes ≡ old.hot.bytes))
    pub kept_room : SameRoom old new
    pub back : IfErr result (λ p. p ≡ (key, entry))
    pub absent : (limit : ℕ) → OnErr result (is_some (kept_for b.eq key (two_lists old limit)) ≡ false)

  -- one entry after another goes while the lists take too many bytes
  pub record Shrinks (limit : ℕ) (old new : Lists K J L V a b c d) : Type 0 where
    pub lists : two_lists new limit ≡ shrink (entry_size a.key_bytes a.val_bytes) (two_lists old limit)
    pub room : SameRoom old new
    pub within : bytes_of_both new ≤ limit
