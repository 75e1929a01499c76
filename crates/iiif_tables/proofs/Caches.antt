-- That the cache stays one: no key has two entries, the bytes are within the limit, the lists within their room.
use Rattle.std.proofs.Common.{subst, ◌≡◌, ℕ, zero, suc, ◌+◌, ◌-◌, ◌≤◌, ◌<◌, Bool, true, false, cond, List, [], ◌∷◌, take, length, Option}
use Rattle.std.proofs.Common.{Some, None, refl, sym, ap, ◌∙◌, arith, is_some}
use Rattle.std.specs.Prelude.{nat_lt, sum_by, if◌then◌else◌}
use Rattle.std.specs.Cmp.{IsEquivalence}
use Rattle.std.specs.Map.{lookup, lookup_entry, remove_entry}
use Rattle.std.specs.Option.{option_map_or, option_or}
use Rattle.std.proofs.lemmas.List.Sums.{sum_by-cons, sum_by-take-le}
use Rattle.std.proofs.lemmas.List.{length-take}
use Rattle.iiif_tables.specs.Cache.{kept_for, Kept, Cache, Side, main_side, hot_side, but_oldest, added, to_front, touch, replaced}
use Rattle.iiif_tables.specs.Cache.{added_to, placed, entries_of, bytes_in, hot_is_large, evict, evict_at_most, shrink, is_too_big, put}
use Rattle.iiif_tables.specs.Cache.{without, empty_cache, IsCache, SameLimits}
use Rattle.iiif_tables.specs.Laws.{StaysCache}
use Rattle.iiif_tables.proofs.Lists.{sum_removed, sum_removed-le, sum_fronted, found_passes, lookup-entry, none_passes}
use Rattle.iiif_tables.proofs.CacheLaws.{shrink_within}

-- the length as a sum
pub length-sum : {X : Type 0} (xs : List X) → length xs ≡ sum_by (λ x. 1) xs
length-sum [] = refl
length-sum (x ∷ xs) = omega (arith, length-sum xs, sum_by-cons (λ x. 1) x xs)

module _ {K V : Type 0} where
  pub limits_touch : (eq : K → K → Bool) (k : K) (c : Cache K V) → SameLimits c (touch eq k c)
  unfolding touch
  limits_touch eq k c = elim (is_some (lookup (eq k) c.main)) as
      (λ b. SameLimits c (if b then record c { main = to_front eq k c.main } else record c { hot = to_front eq k c.hot })) [
        | true ↦ record { limit = refl; room = refl }
        | false ↦ record { limit = refl; room = refl }
      ]

  placed_limits : (eq : K → K → Bool) (k : K) (side : Side) (e : Kept V) (c : Cache K V) (a b : Bool)
      → SameLimits c (if a then record c { main = replaced eq k e c.main } else if b then record c { hot = replaced eq k e c.hot } else
      added_to eq k side e c)
  placed_limits eq k side e c true b = record { limit = refl; room = refl }
  placed_limits eq k side e c false true = record { limit = refl; room = refl }
  placed_limits eq k main_side e c false false = record { limit = refl; room = refl }
  placed_limits eq k hot_side e c false false = record { limit = refl; room = refl }

  pub limits_placed : (eq : K → K → Bool) (k : K) (side : Side) (e : Kept V) (c : Cache K V) → SameLimits c (placed eq k side e c)
  unfolding placed
  limits_placed eq k side e c = placed_limits eq k side e c (is_some (lookup (eq k) c.main)) (is_some (lookup (eq k) c.hot))

  pub limits_without : (eq : K → K → Bool) (k : K) (c : Cache K V) → SameLimits c (without eq k c)
  unfolding without
  limits_without eq k c = record { limit = refl; room = refl }

  pub limits_evict : (size : K → V → ℕ) (c : Cache K V) → SameLimits c (evict size c)
  unfolding evict
  limits_evict size c = elim (hot_is_large size c) as
      (λ b. SameLimits c (if b then record c { hot = but_oldest c.hot } else record c { main = but_oldest c.main })) [
        | true ↦ record { limit = refl; room = refl }
        | false ↦ record { limit = refl; room = refl }
      ]

  pub limits_evict_at_most : (size : K → V → ℕ) (n : ℕ) (c : Cache K V) → SameLimits c (evict_at_most size n c)
  unfolding evict_at_most
  limits_evict_at_most size zero c = record { limit = refl; room = refl }
  limits_evict_at_most size (suc n) c = elim (nat_lt c.limit (bytes_in size c)) as
      (λ b. SameLimits c (if b then evict_at_most size n (evict size c) else c)) [
        | true ↦ let one = limits_evict size c in let more = limits_evict_at_most size n (evict size c) in
            record { limit = more.limit ∙ one.limit; room = more.room ∙ one.room }
        | false ↦ record { limit = refl; room = refl }
      ]

  pub limits_put : (size : K → V → ℕ) (eq : K → K → Bool) (side : Side) (k : K) (e : Kept V) (c : Cache K V) →
      SameLimits c (put size eq side k e c)
  unfolding put
  limits_put size eq side k e c =
      let one = limits_placed eq k side e c in
      let more = limits_evict_at_most size (length (placed eq k side e c).main + length (placed eq k side e c).hot) (placed eq k side e c)
      in
      elim (is_too_big size k e.value c) as (λ b. SameLimits c (if b then c else shrink size (placed eq k side e c))) [
        | true ↦ record { limit = refl; room = refl }
        | false ↦ record { limit = more.limit ∙ one.limit; room = more.room ∙ one.room }
      ]

-- Invariants of a cache but for its bytes, while an entry is put.
pub record IsOrdered {K V : Type 0} (eq : K → K → Bool) (c : Cache K V) : Type 0 where
  pub single : (q : K) → entries_of eq q c.main + entries_of eq q c.hot ≤ 1
  pub room : 0 < c.room
  pub main : length c.main ≤ c.room
  pub hot : length c.hot ≤ c.room

module _ {K : Type 0} (eq : K → K → Bool) (laws : IsEquivalence eq) where
  -- keys that are equal are counted alike
  alike : (q k p : K) → eq k p ≡ true → eq q k ≡ eq q p
  alike q k p h = laws.symm q k ∙ laws.congr k p q h ∙ laws.symm p q

length_added : {X : Type 0} (n : ℕ) (x : X) (xs : List X) → 0 < n → length (added n x xs) ≤ n
length_added n x xs some = omega (arith, some, length-take (n - 1) xs)

module _ {K V : Type 0} (eq : K → K → Bool) (laws : IsEquivalence eq) where
  removed_count : (q k : K) (es : List (K × Kept V)) (e : Kept V) (o : Option (K × Kept V)) → lookup_entry (eq k) es ≡ o → is_some o ≡ true
      → entries_of eq q (replaced eq k e es) ≡ entries_of eq q es
  removed_count q k es e None at is = cc
  removed_count q k es e (Some f) at is =
      let w : K × Kept V → ℕ = λ e. cond (eq q e.0) 1 0 in
      let same : ◌≡◌ {A = ℕ} (cond (eq q k) 1 0) (cond (eq q f.0) 1 0) =
      ap (λ b. cond b 1 0) (alike eq laws q k f.0 (found_passes (eq k) es f at)) in
      omega (arith, same, sum_removed w (eq k) es f at, sum_by-cons w (k, e) (remove_entry (eq k) es))

  -- a key that is there has as many entries after a put as before
  pub count_replaced : (q k : K) (es : List (K × Kept V)) (e : Kept V) → is_some (lookup (eq k) es) ≡ true →
      entries_of eq q (replaced eq k e es) ≡ entries_of eq q es
  count_replaced q k es e h = removed_count q k es e (lookup_entry (eq k) es) refl (sym (lookup-entry (eq k) es) ∙ h)

  removed_length : (k : K) (es : List (K × Kept V)) (e : Kept V) (o : Option (K × Kept V)) → lookup_entry (eq k) es ≡ o → is_some o ≡ true →
      length (replaced eq k e es) ≡ length es
  removed_length k es e None at is = cc
  removed_length k es e (Some f) at is = omega
      (arith, sum_removed (λ x. 1) (eq k) es f at, length-sum es, length-sum (remove_entry (eq k) es))

  pub length_replaced : (k : K) (es : List (K × Kept V)) (e : Kept V) → is_some (lookup (eq k) es) ≡ true →
      length (replaced eq k e es) ≡ length es
  length_replaced k es e h = removed_length k es e (lookup_entry (eq k) es) refl (sym (lookup-entry (eq k) es) ∙ h)

  -- a key that isn't there has no entry, under any key that is equal
  pub count_absent : (q k : K) (es : List (K × Kept V)) → eq q k ≡ true → is_some (lookup (eq k) es) ≡ false → entries_of eq q es ≡ 0
  count_absent q k es same h = none_passes (eq k) (λ e. cond (eq q e.0) 1 0) (λ e no. ap (λ b. cond b 1 0) (laws.congr q k e.0 same ∙ no))
      es h

  added_single : (q k : K) (e : Kept V) (n : ℕ) (es fs : List (K × Kept V)) → is_some (lookup (eq k) es) ≡ false →
      is_some (lookup (eq k) fs) ≡ false
      → entries_of eq q es + entries_of eq q fs ≤ 1 → entries_of eq q (added n (k, e) es) + entries_of eq q fs ≤ 1
  added_single q k e n es fs no_es no_fs few =
      let w : K × Kept V → ℕ = λ e. cond (eq q e.0) 1 0 in
      let new = sum_by-cons w (k, e) (take (n - 1) es) in
      let part = sum_by-take-le w es (n - 1) in
      (elim (eq q k) as (λ b. eq q k ≡ b → entries_of eq q (added n (k, e) es) + entries_of eq q fs ≤ 1) [
        | true ↦ λ same. let one : ◌≡◌ {A = ℕ} (cond (eq q k) 1 0) 1 = ap (λ b. cond b 1 0) same in
            omega (arith, new, part, one, count_absent q k es same no_es, count_absent q k fs same no_fs)
        | false ↦ λ other. let none : ◌≡◌ {A = ℕ} (cond (eq q k) 1 0) 0 = ap (λ b. cond b 1 0) other in omega (arith, new, part, none, few)
      ]) refl

  placed_by : (k : K) (side : Side) (e : Kept V) (c : Cache K V) → IsOrdered eq c → (a b : Bool) → is_some (lookup (eq k) c.main) ≡ a →
      is_some (lookup (eq k) c.hot) ≡ b
      → IsOrdered eq (if a then record c { main = replaced eq k e c.main } else if b then record c { hot = replaced eq k e c.hot } else
      added_to eq k side e c)
  placed_by k side e c h true b at_main at_hot = record {
    single = λ q. omega (arith, h.single q, count_replaced q k c.main e at_main);
    room = h.room;
    main = omega (arith, h.main, length_replaced k c.main e at_main);
    hot = h.hot;
  }
  placed_by k side e c h false true at_main at_hot = record {
    single = λ q. omega (arith, h.single q, count_replaced q k c.hot e at_hot);
    room = h.room;
    main = h.main;
    hot = omega (arith, h.hot, length_replaced k c.hot e at_hot);
  }
  placed_by k main_side e c h false false at_main at_hot = record {
    single = λ q. added_single q k e c.room c.main c.hot at_main at_hot (h.single q);
    room = h.room;
    main = length_added c.room (k, e) c.main h.room;
    hot = h.hot;
  }
  placed_by k hot_side e c h false false at_main at_hot = record {
    single = λ q. omega (arith, added_single q k e c.room c.hot c.main at_hot at_main (omega (arith, h.single q)));
    room = h.room;
    main = h.main;
    hot = length_added c.room (k, e) c.hot h.room;
  }

  pub ordered_placed : (k : K) (side : Side) (e : Kept V) (c : Cache K V) → IsOrdered eq c → IsOrdered eq (placed eq k side e c)
  unfolding placed
  ordered_placed k side e c h = placed_by k side e c h (is_some (lookup (eq k) c.main)) (is_some (lookup (eq k) c.hot)) refl refl

  module _ (size : K → V → ℕ) where
    evicted_by : (c : Cache K V) → IsOrdered eq c → (b : Bool) →
        IsOrdered eq (if b then record c { hot = but_oldest c.hot } else record c { main = but_oldest c.main })
    evicted_by c h true = record {
      single = λ q. omega (arith, h.single q, sum_by-take-le (λ e. cond (eq q e.0) 1 0) c.hot (length c.hot - 1));
      room = h.room;
      main = h.main;
      hot = omega (arith, h.hot, length-take (length c.hot - 1) c.hot);
    }
    evicted_by c h false = record {
      single = λ q. omega (arith, h.single q, sum_by-take-le (λ e. cond (eq q e.0) 1 0) c.main (length c.main - 1));
      room = h.room;
      main = omega (arith, h.main, length-take (length c.main - 1) c.main);
      hot = h.hot;
    }

    pub ordered_evict : (c : Cache K V) → IsOrdered eq c → IsOrdered eq (evict size c)
    unfolding evict
    ordered_evict c h = evicted_by c h (hot_is_large size c)

    pub ordered_evict_at_most : (n : ℕ) (c : Cache K V) → IsOrdered eq c → IsOrdered eq (evict_at_most size n c)
    unfolding evict_at_most
    ordered_evict_at_most zero c h = h
    ordered_evict_at_most (suc n) c h = elim (nat_lt c.limit (bytes_in size c)) as
        (λ b. IsOrdered eq (if b then evict_at_most size n (evict size c) else c)) [
          | true ↦ ordered_evict_at_most n (evict size c) (ordered_evict c h)
          | false ↦ h
        ]

    pub ordered_of : (c : Cache K V) → IsCache size eq c → IsOrdered eq c
    ordered_of c h = record { single = h.single; room = h.room; main = h.main; hot = h.hot }

    pub cache_of : (c : Cache K V) → IsOrdered eq c → bytes_in size c ≤ c.limit → IsCache size eq c
    cache_of c h within = record { single = h.single; bytes = within; room = h.room; main = h.main; hot = h.hot }

    -- a put leaves a cache
    pub cache_put : (side : Side) (k : K) (e : Kept V) (c : Cache K V) → IsCache size eq c → IsCache size eq (put size eq side k e c)
    unfolding put
    cache_put side k e c h =
        let next = placed eq k side e c in
        let limits = limits_placed eq k side e c in
        let after = limits_evict_at_most size (length next.main + length next.hot) next in
        elim (is_too_big size k e.value c) as (λ b. IsCache size eq (if b then c else shrink size next)) [
          | true ↦ h
          | false ↦ cache_of (shrink size next)
              (ordered_evict_at_most (length next.main + length next.hot) next (ordered_placed k side e c (ordered_of c h)))
              (omega (arith, shrink_within size next, after.limit))
        ]

    touched_by : (k : K) (c : Cache K V) → IsCache size eq c → (b : Bool) →
        IsCache size eq (if b then record c { main = to_front eq k c.main } else record c { hot = to_front eq k c.hot })
    touched_by k c h true = record {
      single = λ q. omega (arith, h.single q, sum_fronted (λ e. cond (eq q e.0) 1 0) (eq k) c.main);
      bytes = omega (arith, h.bytes, sum_fronted (λ e. size e.0 e.1.value) (eq k) c.main);
      room = h.room;
      main = omega (arith, h.main, sum_fronted (λ x. 1) (eq k) c.main, length-sum c.main, length-sum (to_front eq k c.main));
      hot = h.hot;
    }
    touched_by k c h false = record {
      single = λ q. omega (arith, h.single q, sum_fronted (λ e. cond (eq q e.0) 1 0) (eq k) c.hot);
      bytes = omega (arith, h.bytes, sum_fronted (λ e. size e.0 e.1.value) (eq k) c.hot);
      room = h.room;
      main = h.main;
      hot = omega (arith, h.hot, sum_fronted (λ x. 1) (eq k) c.hot, length-sum c.hot, length-sum (to_front eq k c.hot));
    }

    pub cache_touch : (k : K) (c : Cache K V) → IsCache size eq c → IsCache size eq (touch eq k c)
    unfolding touch
    cache_touch k c h = touched_by k c h (is_some (lookup (eq k) c.main))

    evicted_cache : (c : Cache K V) → IsCache size eq c → (b : Bool) →
        IsOrdered eq (if b then record c { hot = but_oldest c.hot } else record c { main = but_oldest c.main })
        → IsCache size eq (if b then record c { hot = but_oldest c.hot } else record c { main = but_oldest c.main })
    evicted_cache c h true ordered = cache_of (record c { hot = but_oldest c.hot }) ordered
        (omega (arith, h.bytes, sum_by-take-le (λ e. size e.0 e.1.value) c.hot (length c.hot - 1)))
    evicted_cache c h false ordered = cache_of (record c { main = but_oldest c.main }) ordered
        (omega (arith, h.bytes, sum_by-take-le (λ e. size e.0 e.1.value) c.main (length c.main - 1)))

    pub cache_evict : (c : Cache K V) → IsCache size eq c → IsCache size eq (evict size c)
    unfolding evict
    cache_evict c h = evicted_cache c h (hot_is_large size c) (evicted_by c (ordered_of c h) (hot_is_large size c))

    pub cache_without : (k : K) (c : Cache K V) → IsCache size eq c → IsCache size eq (without eq k c)
    unfolding without
    cache_without k c h = record {
      single = λ q. omega (
        arith,
        h.single q,
        sum_removed-le (λ e. cond (eq q e.0) 1 0) (eq k) c.main,
        sum_removed-le (λ e. cond (eq q e.0) 1 0) (eq k) c.hot,
      );
      bytes = omega (
        arith,
        h.bytes,
        sum_removed-le (λ e. size e.0 e.1.value) (eq k) c.main,
        sum_removed-le (λ e. size e.0 e.1.value) (eq k) c.hot,
      );
      room = h.room;
      main = omega (arith, h.main, sum_removed-le (λ x. 1) (eq k) c.main, length-sum c.main, length-sum (remove_entry (eq k) c.main));
      hot = omega (arith, h.hot, sum_removed-le (λ x. 1) (eq k) c.hot, length-sum c.hot, length-sum (remove_entry (eq k) c.hot));
    }

    pub cache_empty : (limit room : ℕ) → 0 < room → IsCache size eq (empty_cache limit room)
    cache_empty limit room some = record {
      single = λ q. omega arith;
      bytes = omega arith;
      room = some;
      main = omega arith;
      hot =
          omega arith;
    }

    -- each of these changes leaves a cache with the limits that it had
    pub stays : (c : Cache K V) → StaysCache eq size c c
    stays c = record { cache = λ h. h; limits = record { limit = refl; room = refl } }

    pub stays_put : (side : Side) (k : K) (e : Kept V) (c : Cache K V) → StaysCache eq size c (put size eq side k e c)
    stays_put side k e c = record { cache = cache_put side k e c; limits = limits_put size eq side k e c }

    pub stays_touch : (k : K) (c : Cache K V) → StaysCache eq size c (touch eq k c)
    stays_touch k c = record { cache = cache_touch k c; limits = limits_touch eq k c }

    pub stays_without : (k : K) (c : Cache K V) → StaysCache eq size c (without eq k c)
    stays_without k c = record { cache = cache_without k c; limits = limits_without eq k c }

    pub stays_evict : (c : Cache K V) → StaysCache eq size c (evict size c)
    stays_evict c = record { cache = cache_evict c; limits = limits_evict size c }

-- That no key has two entries, by itself: it needs nothing of the room.
module _ {K V : Type 0} (eq : K → K → Bool) where
  abbrev pub Single : Cache K V → Type 0
  Single c = (q : K) → entries_of eq q c.main + entries_of eq q c.hot ≤ 1

  -- an entry of main, or of hot, goes to the front of its list
  pub touched_single : (k : K) (c : Cache K V) → Single c → (b : Bool) →
      Single (if b then record c { main = to_front eq k c.main } else record c { hot = to_front eq k c.hot })
  touched_single k c h true = λ q. omega (arith, h q, sum_fronted (λ e. cond (eq q e.0) 1 0) (eq k) c.main)
  touched_single k c h false = λ q. omega (arith, h q, sum_fronted (λ e. cond (eq q e.0) 1 0) (eq k) c.hot)

  pub single_touch : (k : K) (c : Cache K V) → Single c → Single (touch eq k c)
  unfolding touch
  single_touch k c h = touched_single k c h (is_some (lookup (eq k) c.main))

  evicted_single : (c : Cache K V) → Single c → (b : Bool) →
      Single (if b then record c { hot = but_oldest c.hot } else record c { main = but_oldest c.main })
  evicted_single c h true = λ q. omega (arith, h q, sum_by-take-le (λ e. cond (eq q e.0) 1 0) c.hot (length c.hot - 1))
  evicted_single c h false = λ q. omega (arith, h q, sum_by-take-le (λ e. cond (eq q e.0) 1 0) c.main (length c.main - 1))

  module _ (size : K → V → ℕ) where
    pub single_evict : (c : Cache K V) → Single c → Single (evict size c)
    unfolding evict
    single_evict c h = evicted_single c h (hot_is_large size c)

    pub single_evict_at_most : (n : ℕ) (c : Cache K V) → Single c → Single (evict_at_most size n c)
    unfolding evict_at_most
    single_evict_at_most zero c h = h
    single_evict_at_most (suc n) c h = elim (nat_lt c.limit (bytes_in size c)) as
        (λ b. Single (if b then evict_at_most size n (evict size c) else c)) [
          | true ↦ single_evict_at_most n (evict size c) (single_evict c h)
          | false ↦ h
        ]

  module _ (laws : IsEquivalence eq) where
    placed_single : (k : K) (side : Side) (e : Kept V) (c : Cache K V) → Single c → (a b : Bool) → is_some (lookup (eq k) c.main) ≡ a →
        is_some (lookup (eq k) c.hot) ≡ b
        → Single (if a then record c { main = replaced eq k e c.main } else if b then record c { hot = replaced eq k e c.hot } else added_to
        eq k side e c)
    placed_single k side e c h true b at_main at_hot = λ q. omega (arith, h q, count_replaced eq laws q k c.main e at_main)
    placed_single k side e c h false true at_main at_hot = λ q. omega (arith, h q, count_replaced eq laws q k c.hot e at_hot)
    placed_single k main_side e c h false false at_main at_hot = λ q. added_single eq laws q k e c.room c.main c.hot at_main at_hot (h q)
    placed_single k hot_side e c h false false at_main at_hot = λ q.
        omega (arith, added_single eq laws q k e c.room c.hot c.main at_hot at_main (omega (arith, h q)))

    pub single_placed : (k : K) (side : Side) (e : Kept V) (c : Cache K V) → Single c → Single (placed eq k side e c)
    unfolding placed
    single_placed k side e c h = placed_single k side e c h (is_some (lookup (eq k) c.main)) (is_some (lookup (eq k) c.hot)) refl refl

    pub single_put : (size : K → V → ℕ) (side : Side) (k : K) (e : Kept V) (c : Cache K V) → Single c → Single (put size eq side k e c)
    unfolding put
    single_put size side k e c h = elim (is_too_big size k e.value c) as
        (λ b. Single (if b then c else shrink size (placed eq k side e c))) [
          | true ↦ h
          | false ↦ single_evict_at_most size _ (placed eq k side e c) (single_placed k side e c h)
        ]

module _ {K : Type 0} (eq : K → K → Bool) (laws : IsEquivalence eq) where
  met : (k q e f : K) (b : Bool) → eq q e ≡ b → eq k e ≡ true → eq k f ≡ false → eq q f ≡ true → b ≡ false
  met k q e f true qe ke kf qf = sym (qf) ∙ laws.congr q e f qe ∙ sym (laws.congr k e f ke) ∙ kf
  met k q e f false qe ke kf qf = refl

module _ {K V : Type 0} (eq : K → K → Bool) (laws : IsEquivalence eq) where
  found_first : (k q : K) (es : List (K × Kept V)) (e : K × Kept V) → lookup_entry (eq k) es ≡ Some e
      → cond (eq q e.0) (Some e.1) (lookup (eq q) (remove_entry (eq k) es)) ≡ lookup (eq q) es
  found_first k q [] e at = cc
  found_first k q (f ∷ es) e at = (elim (eq k f.0) as (λ b. eq k f.0 ≡ b → cond b (Some f) (lookup_entry (eq k) es) ≡ Some e
      → cond (eq q e.0) (Some e.1) (lookup (eq q) (cond b es (f ∷ remove_entry (eq k) es))) ≡ lookup (eq q) (f ∷ es)) [
        | true ↦ λ kf at. let is : f ≡ e = cc in subst (λ g. cond (eq q g.0) (Some g.1) (lookup (eq q) es) ≡ lookup (eq q) (f ∷ es)) is refl
        | false ↦ λ kf at. (elim (eq q f.0) as
            (λ b. eq q f.0 ≡ b → cond (eq q e.0) (Some e.1) (cond b (Some f.1) (lookup (eq q) (remove_entry (eq k) es))) ≡ cond b (Some f.1)
            (lookup (eq q) es)) [
              | true ↦ λ qf. rw (met eq laws k q e.0 f.0 (eq q e.0) refl (found_passes (eq k) es e at) kf qf) refl
              | false ↦ λ qf. found_first k q es e at
            ]) refl
      ]) refl at

  fronted_lookup : (k q : K) (es : List (K × Kept V)) (o : Option (K × Kept V)) → lookup_entry (eq k) es ≡ o
      → lookup (eq q) (option_map_or (λ e. e ∷ remove_entry (eq k) es) o es) ≡ lookup (eq q) es
  fronted_lookup k q es None at = refl
  fronted_lookup k q es (Some e) at = found_first k q es e at

  -- each key is looked up as before
  pub lookup-to_front : (k q : K) (es : List (K × Kept V)) → lookup (eq q) (to_front eq k es) ≡ lookup (eq q) es
  lookup-to_front k q es = fronted_lookup k q es (lookup_entry (eq k) es) refl

  pub kept_for-touch : (k q : K) (c : Cache K V) → kept_for eq q (touch eq k c) ≡ kept_for eq q c
  unfolding touch
  kept_for-touch k q c = elim (is_some (lookup (eq k) c.main)) as
      (λ b. kept_for eq q (if b then record c { main = to_front eq k c.main } else record c { hot = to_front eq k c.hot }) ≡ kept_for eq q
      c) [
        | true ↦ ap (λ o. option_or o (lookup (eq q) c.hot)) (lookup-to_front k q c.main)
        | false ↦ ap (option_or (lookup (eq q) c.main)) (lookup-to_front k q c.hot)
      ]
