-- The cache: a look-up, a put and an eviction, in two lists with one limit in bytes.
use Rattle.std.specs.Prelude.{◌≡◌, ℕ, zero, suc, ◌+◌, ◌-◌, ◌/◌, ◌<◌, ◌≤◌, Bool, nat_lt, List, [], ◌∷◌, length, take, slice_get, sum_by}
use Rattle.std.specs.Prelude.{count_by, Option, is_some, if◌then◌else◌}
use Rattle.std.specs.List.{AllByRecursion}
use Rattle.std.specs.Option.{option_map_or, option_or}
use Rattle.std.specs.Map.{lookup, lookup_entry, remove_entry}

-- a value that is kept, and the ticket of the flight that landed with it
pub record Kept (V : Type 0) : Type 0 where
  pub value : V
  pub ticket : ℕ

-- Two lists of keys with what is kept for them, the entry that was used last at the front of each; how many bytes they may take
-- together, and how many entries each may have.
pub record Cache (K V : Type 0) : Type 0 where
  pub main : List (K × Kept V)
  pub hot : List (K × Kept V)
  pub limit : ℕ
  pub room : ℕ

-- a cache with these limits in which nothing is kept
abbrev pub empty_cache : {K V : Type 0} → ℕ → ℕ → Cache K V
empty_cache limit room = record { main = []; hot = []; limit = limit; room = room }

-- one of the two lists
pub data Side : Type 0 where
  main_side : Side
  hot_side : Side

-- the entry that was used longest ago, and the others
abbrev pub oldest : {X : Type 0} → List X → Option X
oldest es = slice_get es (length es - 1)

abbrev pub but_oldest : {X : Type 0} → List X → List X
but_oldest es = take (length es - 1) es

-- the list with an entry more at its front; where it has as many as it may have, its oldest goes first
abbrev pub added : {X : Type 0} → ℕ → X → List X → List X
added room e es = e ∷ take (room - 1) es

module _ {K V : Type 0} (eq : K → K → Bool) (k : K) where
  -- the value that is kept for the key: in main, else in hot
  abbrev pub kept_for : Cache K V → Option (Kept V)
  kept_for c = option_or (lookup (eq k) c.main) (lookup (eq k) c.hot)

  -- the key's entry goes to the front of a list that has it
  abbrev pub to_front : List (K × Kept V) → List (K × Kept V)
  to_front es = option_map_or (λ e. e ∷ remove_entry (eq k) es) (lookup_entry (eq k) es) es

  -- the key's entry goes to the front of its list
  unfoldable pub touch : Cache K V → Cache K V
  touch c =
      if is_some (lookup (eq k) c.main)
      then record c { main = to_front c.main }
      else record c { hot = to_front c.hot }

  -- the key's entry goes, from whichever list has it
  unfoldable pub without : Cache K V → Cache K V
  without c = record c { main = remove_entry (eq k) c.main; hot = remove_entry (eq k) c.hot }

  -- a list that has the key has its entry at the front, with what is kept from now on
  abbrev pub replaced : Kept V → List (K × Kept V) → List (K × Kept V)
  replaced e es = (k, e) ∷ remove_entry (eq k) es

  -- a key that neither list has is added to one of them
  abbrev pub added_to : Side → Kept V → Cache K V → Cache K V
  added_to main_side e c = record c { main = added c.room (k, e) c.main }
  added_to hot_side e c = record c { hot = added c.room (k, e) c.hot }

  -- The key's entry comes to the front of the list that has the key; where neither has it, it is added to this side.
  unfoldable pub placed : Side → Kept V → Cache K V → Cache K V
  placed side e c =
      if is_some (lookup (eq k) c.main) then record c { main = replaced e c.main }
      else if is_some (lookup (eq k) c.hot) then record c { hot = replaced e c.hot }
      else added_to side e c

-- how many entries a key has in a list
abbrev pub entries_of : {K V : Type 0} → (K → K → Bool) → K → List (K × Kept V) → ℕ
entries_of eq q es = count_by (λ e. eq q e.0) es

module _ {K V : Type 0} (size : K → V → ℕ) where
  -- how many bytes a list takes, and both together; `size` is what a key and its value take
  abbrev pub bytes_of : List (K × Kept V) → ℕ
  bytes_of es = sum_by (λ e. size e.0 e.1.value) es

  abbrev pub bytes_in : Cache K V → ℕ
  bytes_in c = bytes_of c.main + bytes_of c.hot

  -- whether hot takes more than an eighth of what main takes
  abbrev pub hot_is_large : Cache K V → Bool
  hot_is_large c = nat_lt (bytes_of c.main / 8) (bytes_of c.hot)

  -- the entry that goes next: the oldest of hot where that is large, else the oldest of main
  unfoldable pub victim : Cache K V → Option (K × Kept V)
  victim c = if hot_is_large c then oldest c.hot else oldest c.main

  -- it goes
  unfoldable pub evict : Cache K V → Cache K V
  evict c = if hot_is_large c then record c { hot = but_oldest c.hot } else record c { main = but_oldest c.main }

  -- one after another goes, n at most, while the lists take too many bytes
  unfoldable pub evict_at_most : ℕ → Cache K V → Cache K V
  evict_at_most zero c = c
  evict_at_most (suc n) c = if nat_lt c.limit (bytes_in c) then evict_at_most n (evict c) else c

  -- one after another goes, while the lists take too many bytes
  abbrev pub shrink : Cache K V → Cache K V
  shrink c = evict_at_most (length c.main + length c.hot) c

  -- the entry by itself takes more bytes than all may
  abbrev pub is_too_big : K → V → Cache K V → Bool
  is_too_big k v c = nat_lt c.limit (size k v)

  -- An entry is put: one that is too big changes nothing; any other is placed, and then the lists shrink, which may take it out
  -- again.
  unfoldable pub put : (K → K → Bool) → Side → K → Kept V → Cache K V → Cache K V
  put eq side k e c = if is_too_big k e.value c then c else shrink (placed eq k side e c)

  -- laws of every cache
  pub record IsCache (eq : K → K → Bool) (c : Cache K V) : Type 0 where
    -- no key has more than one entry, in both lists together
    pub single : (q : K) → entries_of eq q c.main + entries_of eq q c.hot ≤ 1
    pub bytes : bytes_in c ≤ c.limit
    pub room : 0 < c.room
    pub main : length c.main ≤ c.room
    pub hot : length c.hot ≤ c.room

-- the limits of one cache are those of the other
pub record SameLimits {K V : Type 0} (c d : Cache K V) : Type 0 where
  pub limit : d.limit ≡ c.limit
  pub room : d.room ≡ c.room

-- P of each entry, in both lists
pub record Each {K V : Type 0} (P : K × Kept V → Type 0) (c : Cache K V) : Type 0 where
  pub main : AllByRecursion P c.main
  pub hot : AllByRecursion P c.hot
