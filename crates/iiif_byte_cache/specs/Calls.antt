-- The calls of a cache. How keys and values are measured and compared stands in the cache's type.
--   IsEmpty, Takes, count_of, AreMainKeys, AreHotKeys   an empty cache, its bytes, entries and keys
--   kept_in, keeps, LendsKept                           what is kept for a key, whether something is, and that it is lent
--   Touches, Hits                                       moving an entry to the front, and sharing it
--   Evicts, is_above, Puts                              taking the next entry out, an entry that is too big, and a put
use Rattle.std.specs.Prelude.{◌≡◌, ℕ, ◌+◌, ◌≤◌, Bool, false, length, map, Option, option_map, is_some, Result}
use Rattle.std.specs.Prelude.{IfErr, IfNone, IfOk, IfSome, IsTrue, OnErr, OnOk}
use Rattle.std.specs.Borrow.{Bor}
use Rattle.std.specs.NonZero.{non_zero_usize_get}
use Rattle.std.specs.declared.cmp.PartialEq as partial_eq
use Rattle.std.specs.declared.num.NonZeroUsize.{NonZeroUsize}
use Rattle.std.specs.declared.vec.Vec.{Vec}
use Rattle.iiif_tables.specs.Cache.{Side, Kept, bytes_in, empty_cache, evict, is_too_big, kept_for, put, touch, victim as next_out}
use Rattle.iiif_keys.specs.declared.cache_key.CacheKey as cache_key
use Rattle.iiif_outcome.specs.Views.{entry_size, kept_of}
use Rattle.iiif_outcome.specs.declared.entry.Entry.{Entry}
use Rattle.iiif_byte_cache.specs.OneList.{IsOf}
use Rattle.iiif_byte_cache.specs.View.{IsRefusal, cache_of}
use Rattle.iiif_byte_cache.specs.declared.cache.ByteCache.{ByteCache}
use Rattle.iiif_byte_cache.specs.declared.cache.PutFault.{PutFault}

module _ {K J L V : Type 0} {a : cache_key.Ghosts K V} {b : partial_eq.Ghosts K} {c d : _} where
  -- nothing is kept yet; so many bytes in all, and so many entries a list
  abbrev pub IsEmpty : ℕ → NonZeroUsize → ByteCache K J L V a b c d → Type 0
  IsEmpty bytes entries cache = cache_of cache ≡ empty_cache bytes (non_zero_usize_get entries)

  -- the entries take so many bytes, with their keys, and never more than they may
  pub record Takes (cache : ByteCache K J L V a b c d) (size : ℕ) : Type 0 where
    pub bytes : size ≡ bytes_in (entry_size a.key_bytes a.val_bytes) (cache_of cache)
    pub within : size ≤ (cache_of cache).limit

  -- how many entries there are, the keys of a list in order, what is kept for a key, and whether something is
  abbrev pub count_of : ByteCache K J L V a b c d → ℕ
  count_of cache = length (cache_of cache).main + length (cache_of cache).hot

  abbrev pub AreMainKeys : {A : Type 0} → ByteCache K J L V a b c d → Vec K A → Type 0
  AreMainKeys cache keys = keys.items ≡ map (λ e. e.0) (cache_of cache).main

  abbrev pub AreHotKeys : {A : Type 0} → ByteCache K J L V a b c d → Vec K A → Type 0
  AreHotKeys cache keys = keys.items ≡ map (λ e. e.0) (cache_of cache).hot

  abbrev pub kept_in : ByteCache K J L V a b c d → K → Option (Kept V)
  kept_in cache key = kept_for b.eq key (cache_of cache)

  abbrev pub keeps : ByteCache K J L V a b c d → K → Bool
  keeps cache key = is_some (kept_in cache key)

  -- an entry that is lent for a key: the one that is kept for it
  abbrev pub LendsKept : ByteCache K J L V a b c d → K → Option (Bor (Entry K J L V a b c d)) → Type 0
  LendsKept cache key lent = option_map (λ e. kept_of e.now) lent ≡ kept_in cache key

  -- the key's entry goes to the front of its list
  abbrev pub Touches : K → ByteCache K J L V a b c d → ByteCache K J L V a b c d → Type 0
  Touches key old new = cache_of new ≡ touch b.eq key (cache_of old)

  -- The entry that goes next is taken out; there is none where there is no entry.
  pub record Evicts (old new : ByteCache K J L V a b c d) (out : Option (K × Entry K J L V a b c d)) : Type 0 where
    pub victim : option_map (λ e. (e.0, kept_of e.1)) out ≡ next_out (entry_size a.key_bytes a.val_bytes) (cache_of old)
    pub rest : cache_of new ≡ evict (entry_size a.key_bytes a.val_bytes) (cache_of old)
    pub none : IfNone out (count_of old ≡ 0)

  -- the entry by itself takes more bytes than all may
  abbrev pub is_above : K → Entry K J L V a b c d → ByteCache K J L V a b c d → Bool
  is_above key entry cache = is_too_big (entry_size a.key_bytes a.val_bytes) key (kept_of entry).value (cache_of cache)

  -- An entry is put at the front, and the oldest go; or it is handed back with its key, and nothing changes.
  pub record Puts {A : Type 0} (side : Side) (key : K) (entry : Entry K J L V a b c d) (old new : ByteCache K J L V a b c d)
      (result : Result A (PutFault K (Entry K J L V a b c d))) : Type 0 where
    pub ok : OnOk result (cache_of new ≡ put (entry_size a.key_bytes a.val_bytes) b.eq side key (kept_of entry) (cache_of old))
    pub fits : OnOk result (is_above key entry old ≡ false)
    pub err : OnErr result (cache_of new ≡ cache_of old)
    pub back : IfErr result (IsRefusal key entry (is_above key entry old) (keeps old key))

  -- the entry kept for the key is shared, and stays where it is
  pub record Hits {E : Type 0} (key : K) (old new : ByteCache K J L V a b c d) (result : Result (Option (Entry K J L V a b c d)) E)
      : Type 0 where
    pub told : IfOk result (λ h. option_map kept_of h ≡ kept_in old key)
    pub of_key : IfOk result (λ o. IfSome o (IsOf key))
    -- an entry refuses a share only where there is one
    pub refused : OnErr result (IsTrue (keeps old key))
    pub same : cache_of new ≡ cache_of old
