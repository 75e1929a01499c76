-- Worked examples of the definitions, over keys and values that are numbers; a value takes as many bytes as its number says.
use Rattle.std.proofs.Common.{◌≡◌, ℕ, [], ◌∷◌, List, length, map, refl, true, false, Some, None, nat_eq}
use Rattle.iiif_tables.specs.Cache.{Cache, Kept, added, evict, evict_at_most, main_side, placed, put, victim}
use Rattle.iiif_tables.specs.Flights.{counting, storing}
use Rattle.iiif_tables.specs.declared.table.Book.{Book}
use Rattle.iiif_tables.specs.declared.table.Place.TheVariants.{Main, Peer}

abbrev bytes : ℕ → ℕ → ℕ
bytes k v = v

-- keys 1 and 2 in main with 4 bytes each, the first of them used last, and room for 10 bytes
abbrev two : List (ℕ × Kept ℕ) → Cache ℕ ℕ
two hot = record {
  main = (1, record { value = 4; ticket = 1 }) ∷ (2, record { value = 4; ticket = 2 }) ∷ [];
  hot = hot;
  limit = 10;
  room = 4;
}

abbrev keys : List (ℕ × Kept ℕ) → List ℕ
keys es = map (λ e. e.0) es

-- a list with room for two loses its oldest
newest_first : added {X = ℕ} 2 3 (1 ∷ 2 ∷ []) ≡ 3 ∷ 1 ∷ []
newest_first = refl

-- 4 bytes more are 12 in all, so key 2 goes, which was used longest ago
oldest_goes : keys (put bytes nat_eq main_side 3 (record { value = 4; ticket = 3 }) (two [])).main ≡ 3 ∷ 1 ∷ []
unfolding put evict_at_most placed evict
oldest_goes = refl

-- a value of 11 bytes is above the limit, and changes nothing
too_big : keys (put bytes nat_eq main_side 3 (record { value = 11; ticket = 3 }) (two [])).main ≡ 1 ∷ 2 ∷ []
unfolding put
too_big = refl

-- an eighth of main is 1 byte: hot with 2 is above it, with 1 it isn't
abbrev hot_of : ℕ → List (ℕ × Kept ℕ)
hot_of n = (7, record { value = n; ticket = 3 }) ∷ []

hot_goes_first : victim bytes (two (hot_of 2)) ≡ Some (7, record { value = 2; ticket = 3 })
unfolding victim
hot_goes_first = refl

main_goes_else : victim bytes (two (hot_of 1)) ≡ Some (2, record { value = 4; ticket = 2 })
unfolding victim
main_goes_else = refl

-- of values of peers the tenth goes to hot, and the ninth isn't kept
tenth_is_kept : length (storing nat_eq bytes Peer 10 3 (record { value = 1; ticket = 3 }) (two [])).hot ≡ 1
unfolding put evict_at_most placed
tenth_is_kept = refl

ninth_is_not : length (storing nat_eq bytes Peer 9 3 (record { value = 1; ticket = 3 }) (two [])).hot ≡ 0
ninth_is_not = refl

-- the book of a table after three calls, of which one led
abbrev book : Book
book = record {
  gets = 3;
  hits = 1;
  joins = 1;
  leads = 1;
  again_hits = 0;
  loads = 0;
  peer = 0;
  landed = 0;
  faults = 0;
}

peers_value : (counting {V = ℕ} false (Some 4) Peer book).peer ≡ 1
peers_value = refl

fault_counted : (counting {V = ℕ} false None Main book).faults ≡ 1
fault_counted = refl

-- found by looking again: no load, whatever the place
found_again : (counting {V = ℕ} true (Some 4) Peer book).loads ≡ 0
found_again = refl
