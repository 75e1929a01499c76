-- Invariants of every cache: limits, single entries, and what holds of each entry.
use Rattle.std.proofs.Common.{◌≡◌, ℕ, zero, suc, ◌-◌, Bool, true, false, length, Option, Some, None, refl, ◌∙◌, is_some}
use Rattle.std.specs.Prelude.{nat_lt, if◌then◌else◌}
use Rattle.std.specs.Map.{lookup}
use Rattle.std.specs.Option.{option_or}
use Rattle.iiif_tables.specs.Cache.{Each, Kept, Cache, Side, main_side, hot_side, but_oldest, to_front, touch, without, replaced, added_to}
use Rattle.iiif_tables.specs.Cache.{placed, kept_for, bytes_in, hot_is_large, evict, evict_at_most, shrink, is_too_big, put}
use Rattle.iiif_tables.proofs.Lists.{each_taken, each_removed, each_fronted, each_lookup}

module _ {K V : Type 0} (P : K × Kept V → Type 0) where
  module _ (eq : K → K → Bool) (k : K) where
    touched_by : (c : Cache K V) → Each P c → (b : Bool) →
        Each P (if b then record c { main = to_front eq k c.main } else record c { hot = to_front eq k c.hot })
    touched_by c h true = record { main = each_fronted P (eq k) c.main h.main; hot = h.hot }
    touched_by c h false = record { main = h.main; hot = each_fronted P (eq k) c.hot h.hot }

    pub each_touch : (c : Cache K V) → Each P c → Each P (touch eq k c)
    unfolding touch
    each_touch c h = touched_by c h (is_some (lookup (eq k) c.main))

    pub each_without : (c : Cache K V) → Each P c → Each P (without eq k c)
    unfolding without
    each_without c h = record { main = each_removed P (eq k) c.main h.main; hot = each_removed P (eq k) c.hot h.hot }

    each_added : (side : Side) (e : Kept V) (c : Cache K V) → P (k, e) → Each P c → Each P (added_to eq k side e c)
    each_added main_side e c p h = record { main = (p, each_taken P (c.room - 1) c.main h.main); hot = h.hot }
    each_added hot_side e c p h = record { main = h.main; hot = (p, each_taken P (c.room - 1) c.hot h.hot) }

    placed_by : (side : Side) (e : Kept V) (c : Cache K V) → P (k, e) → Each P c → (a b : Bool)
        → Each P (if a then record c { main = replaced eq k e c.main } else if b then record c { hot = replaced eq k e c.hot } else added_to
        eq k side e c)
    placed_by side e c p h true b = record { main = (p, each_removed P (eq k) c.main h.main); hot = h.hot }
    placed_by side e c p h false true = record { main = h.main; hot = (p, each_removed P (eq k) c.hot h.hot) }
    placed_by side e c p h false false = each_added side e c p h

    pub each_placed : (side : Side) (e : Kept V) (c : Cache K V) → P (k, e) → Each P c → Each P (placed eq k side e c)
    unfolding placed
    each_placed side e c p h = placed_by side e c p h (is_some (lookup (eq k) c.main)) (is_some (lookup (eq k) c.hot))

    found_in : (c : Cache K V) → Each P c → (e : Kept V) (o : Option (Kept V)) → lookup (eq k) c.main ≡ o →
        option_or o (lookup (eq k) c.hot) ≡ Some e
        → (q : K) × (eq k q ≡ true) × P (q, e)
    found_in c h e None at is = each_lookup P (eq k) c.hot h.hot e is
    found_in c h e (Some f) at is = each_lookup P (eq k) c.main h.main e (at ∙ is)

    -- the entry that a look-up finds
    pub each_kept_for : (c : Cache K V) → Each P c → (e : Kept V) → kept_for eq k c ≡ Some e → (q : K) × (eq k q ≡ true) × P (q, e)
    each_kept_for c h e is = found_in c h e (lookup (eq k) c.main) refl is

  module _ (size : K → V → ℕ) where
    evicted_by : (c : Cache K V) → Each P c → (b : Bool) →
        Each P (if b then record c { hot = but_oldest c.hot } else record c { main = but_oldest c.main })
    evicted_by c h true = record { main = h.main; hot = each_taken P (length c.hot - 1) c.hot h.hot }
    evicted_by c h false = record { main = each_taken P (length c.main - 1) c.main h.main; hot = h.hot }

    pub each_evict : (c : Cache K V) → Each P c → Each P (evict size c)
    unfolding evict
    each_evict c h = evicted_by c h (hot_is_large size c)

    pub each_evict_at_most : (n : ℕ) (c : Cache K V) → Each P c → Each P (evict_at_most size n c)
    unfolding evict_at_most
    each_evict_at_most zero c h = h
    each_evict_at_most (suc n) c h = elim (nat_lt c.limit (bytes_in size c)) as
        (λ b. Each P (if b then evict_at_most size n (evict size c) else c)) [
          | true ↦ each_evict_at_most n (evict size c) (each_evict c h)
          | false ↦ h
        ]

    -- each entry after a put was there, or is the one that was put
    pub each_put : (eq : K → K → Bool) (side : Side) (k : K) (e : Kept V) (c : Cache K V) → P (k, e) → Each P c →
        Each P (put size eq side k e c)
    unfolding put
    each_put eq side k e c p h = elim (is_too_big size k e.value c) as (λ b. Each P (if b then c else shrink size (placed eq k side e c))) [
      | true ↦ h
      | false ↦ each_evict_at_most _ (placed eq k side e c) (each_placed eq k side e c p h)
    ]
