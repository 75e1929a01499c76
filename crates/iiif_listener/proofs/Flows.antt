-- Runs of writes against the least rate.
use Rattle.std.proofs.Common.{◌≡◌, ℕ, ◌+◌, ◌-◌, ◌*◌, ◌^◌, ◌<◌, ◌≤◌, ◌==◌, Bool, true, false, List, [], ◌∷◌, All, if◌then◌else◌}
use Rattle.std.proofs.Common.{nat_lt, zero, suc, inl, inr, refl, sym, ap, subst, ◌∙◌, arith}
use Rattle.std.specs.Prelude.{sum_by}
use Rattle.std.proofs.lemmas.Bool.{le-leb, lt-leb}
use Rattle.std.proofs.lemmas.List.Sums.{sum_by-cons}
use Rattle.std.proofs.lemmas.List.Elements.{All-tail}
use Rattle.iiif_listener.specs.declared.flow.Flow.{Flow}
use Rattle.iiif_listener.specs.declared.flow.Rate.{Rate}
use Rattle.iiif_listener.specs.Flow.{begun, plus, is_enough, goes_on, taken_by, goes_on_behind, IsAbove, IsBelow}
use Rattle.iiif_listener.specs.Flow.{IsNeverCutAbove, IsAlwaysCutBelow}

abbrev waits : List (ℕ × ℕ) → ℕ
waits writes = sum_by (λ (w : ℕ × ℕ). w.0) writes

abbrev bytes_in : List (ℕ × ℕ) → ℕ
bytes_in writes = sum_by (λ (w : ℕ × ℕ). w.1) writes

none_waits : waits [] ≡ 0
none_waits = refl

plus_is : (a b : ℕ) → a + b < 2 ^ 64 → plus a b ≡ a + b
plus_is a b small = omega arith

-- products of sums
both_above : (r w v t b : ℕ) → r * w ≤ 1000 * t → r * v ≤ 1000 * b → r * (w + v) ≤ 1000 * (t + b)
both_above r w v t b p q = omega arith

both_below : (r w v t b : ℕ) → 1000 * t ≤ r * w → 1000 * b < r * v → 1000 * (t + b) < r * (w + v)
both_below r w v t b p q = omega arith

-- a write after which the answer goes on
goes : (none inside enough : Bool) → enough ≡ true → (if none then true else (if inside then true else enough)) ≡ true
goes true inside enough is = refl
goes false true enough is = refl
goes false false enough is = is

-- what is known behind a write
behind : (P : Flow → Type 0) (none inside : Bool) (f g h : Flow) → P f → P g → P h → P (if none then f else (if inside then g else h))
behind P true inside f g h p q r = p
behind P false true f g h p q r = q
behind P false false f g h p q r = r

-- an answer that was taken fast enough so far, with so many milliseconds and bytes to come
record Fair (rate : Rate) (wait bytes : ℕ) (f : Flow) : Type 0 where
  pub rated : f.rate ≡ rate
  pub fast : rate.bytes * f.waited ≤ 1000 * f.taken
  pub time : f.waited + wait < 2 ^ 64
  pub size : f.taken + bytes < 2 ^ 64

above_of : (rate : Rate) (w b : ℕ) → IsAbove rate (w, b) → rate.bytes * w ≤ 1000 * b
above_of rate w b (inl none) = omega (arith, ap (λ (n : ℕ). rate.bytes * n) none)
above_of rate w b (inr above) = above

fair_goes : (rate : Rate) (wait bytes w b : ℕ) (f : Flow) → Fair rate (w + wait) (b + bytes) f → rate.bytes * w ≤ 1000 * b →
    goes_on f w b ≡ true
fair_goes rate wait bytes w b f fair above =
    let time = fair.time in
    let size = fair.size in
    let same_wait = plus_is f.waited w (omega arith) in
    let same_taken = plus_is f.taken b (omega arith) in
    let all = both_above rate.bytes f.waited w f.taken b fair.fast above in
    let enough : rate.bytes * plus f.waited w ≤ 1000 * plus f.taken b = let first = ap (λ (n : ℕ). rate.bytes * n) same_wait in
    omega arith in
    goes (w == 0) (nat_lt (plus f.waited w) f.rate.period) (is_enough f.rate (plus f.waited w) (plus f.taken b))
    (subst (λ (r : Rate). is_enough r (plus f.waited w) (plus f.taken b) ≡ true) (sym fair.rated)
    (le-leb (rate.bytes * plus f.waited w) (1000 * plus f.taken b) enough))

fair_behind : (rate : Rate) (wait bytes w b : ℕ) (f : Flow) → Fair rate (w + wait) (b + bytes) f → rate.bytes * w ≤ 1000 * b →
    Fair rate wait bytes (taken_by f w b)
fair_behind rate wait bytes w b f fair above =
    let time = fair.time in
    let size = fair.size in
    let same_wait = plus_is f.waited w (omega arith) in
    let same_taken = plus_is f.taken b (omega arith) in
    let all = both_above rate.bytes f.waited w f.taken b fair.fast above in
    let first = ap (λ (n : ℕ). rate.bytes * n) same_wait in
    behind (Fair rate wait bytes) (w == 0) (nat_lt (plus f.waited w) f.rate.period) f
    (record { rate = f.rate; waited = plus f.waited w; taken = plus f.taken b }) (begun f.rate)
    (record { rated = fair.rated; fast = fair.fast; time = omega arith; size = omega arith })
    (record { rated = fair.rated; fast = omega arith; time = omega arith; size = omega arith })
    (record { rated = fair.rated; fast = omega arith; time = omega arith; size = omega arith })

never : (rate : Rate) (writes : List (ℕ × ℕ)) (f : Flow) → Fair rate (waits writes) (bytes_in writes) f → All (IsAbove rate) writes →
    goes_on_behind f writes ≡ true
never rate [] f fair above = refl
never rate ((w, b) ∷ more) f fair above =
    let a = above_of rate w b (above 0 (w, b) (omega arith)) in
    let here : Fair rate (w + waits more) (b + bytes_in more) f =
    subst (λ (n : ℕ). Fair rate n (b + bytes_in more) f) (sum_by-cons (λ (x : ℕ × ℕ). x.0) (w, b) more)
    (subst (λ (n : ℕ). Fair rate (waits ((w, b) ∷ more)) n f) (sum_by-cons (λ (x : ℕ × ℕ). x.1) (w, b) more) fair) in
    ap (λ (go : Bool). if go then goes_on_behind (taken_by f w b) more else false)
    (fair_goes rate (waits more) (bytes_in more) w b f here a)
    ∙ never rate more (taken_by f w b) (fair_behind rate (waits more) (bytes_in more) w b f here a)
    (All-tail (IsAbove rate) (w, b) more above)

pub never_cut : IsNeverCutAbove
never_cut rate writes counted above =
    never rate writes (begun rate) (record {
      rated = refl;
      fast = omega arith;
      time = omega (arith, counted.0);
      size =
          omega (arith, counted.1);
    }) above

-- an answer that was taken too slowly so far, within its period, of which so many milliseconds come
record Slow (rate : Rate) (wait bytes : ℕ) (f : Flow) : Type 0 where
  pub rated : f.rate ≡ rate
  pub slow : 1000 * f.taken ≤ rate.bytes * f.waited
  pub within : f.waited < rate.period
  pub ends : rate.period ≤ f.waited + wait
  pub time : f.waited + wait < 2 ^ 64
  pub size : f.taken + bytes < 2 ^ 64

below_of : (rate : Rate) (k b : ℕ) → IsBelow rate (suc k, b) → 1000 * b < rate.bytes * suc k
below_of rate k b (inl none) = absurd (omega (arith, none))
below_of rate k b (inr below) = below

cut_by : (none inside enough : Bool) (f g h : Flow) (more : List (ℕ × ℕ)) → none ≡ false → (inside ≡ true → goes_on_behind g more ≡ false) →
    enough ≡ false
    → (if (if none then true else (if inside then true else enough)) then goes_on_behind (if none then f else (if inside then g else h))
    more else false) ≡ false
cut_by true inside enough f g h more n p q = grind arith
cut_by false true enough f g h more n p q = p refl
cut_by false false enough f g h more n p q = ap (λ (go : Bool). if go then goes_on_behind h more else false) q

no_zero : (k : ℕ) → (suc k == 0) ≡ false
no_zero k = grind arith

ltb-lt : (a b : ℕ) → nat_lt a b ≡ true → a < b
ltb-lt a b is = grind arith

always : (rate : Rate) (writes : List (ℕ × ℕ)) (f : Flow) → Slow rate (waits writes) (bytes_in writes) f → All (IsBelow rate) writes →
    goes_on_behind f writes ≡ false
always rate [] f slow below = let within = slow.within in let ends = slow.ends in absurd (omega (arith, none_waits))
always rate ((zero, b) ∷ more) f slow below =
    let here : Slow rate (0 + waits more) (b + bytes_in more) f =
    subst (λ (n : ℕ). Slow rate n (b + bytes_in more) f) (sum_by-cons (λ (x : ℕ × ℕ). x.0) (0, b) more)
    (subst (λ (n : ℕ). Slow rate (waits ((0, b) ∷ more)) n f) (sum_by-cons (λ (x : ℕ × ℕ). x.1) (0, b) more) slow) in
    let size = here.size in
    let ends = here.ends in
    let time = here.time in
    always rate more f (record {
      rated = here.rated;
      slow = here.slow;
      within = here.within;
      ends = omega arith;
      time = omega arith;
      size =
          omega arith;
    })
    (All-tail (IsBelow rate) (0, b) more below)
always rate ((suc k, b) ∷ more) f slow below =
    let here : Slow rate (suc k + waits more) (b + bytes_in more) f =
    subst (λ (n : ℕ). Slow rate n (b + bytes_in more) f) (sum_by-cons (λ (x : ℕ × ℕ). x.0) (suc k, b) more)
    (subst (λ (n : ℕ). Slow rate (waits ((suc k, b) ∷ more)) n f) (sum_by-cons (λ (x : ℕ × ℕ). x.1) (suc k, b) more) slow) in
    let size = here.size in
    let ends = here.ends in
    let time = here.time in
    let same_wait = plus_is f.waited (suc k) (omega arith) in
    let same_taken = plus_is f.taken b (omega arith) in
    let all = both_below rate.bytes f.waited (suc k) f.taken b here.slow (below_of rate k b (below 0 (suc k, b) (omega arith))) in
    let first = ap (λ (n : ℕ). rate.bytes * n) same_wait in
    let few : 1000 * plus f.taken b < rate.bytes * plus f.waited (suc k) = omega arith in
    cut_by (suc k == 0) (nat_lt (plus f.waited (suc k)) f.rate.period) (is_enough f.rate (plus f.waited (suc k)) (plus f.taken b))
    f (record { rate = f.rate; waited = plus f.waited (suc k); taken = plus f.taken b }) (begun f.rate) more (no_zero k)
    (λ inside.
    let short : plus f.waited (suc k) < rate.period =
    subst (λ (r : Rate). plus f.waited (suc k) < r.period) here.rated (ltb-lt (plus f.waited (suc k)) f.rate.period inside) in
    always rate more (record { rate = f.rate; waited = plus f.waited (suc k); taken = plus f.taken b })
    (record { rated = here.rated; slow = omega arith; within = short; ends = omega arith; time = omega arith; size = omega arith })
    (All-tail (IsBelow rate) (suc k, b) more below))
    (subst (λ (r : Rate). is_enough r (plus f.waited (suc k)) (plus f.taken b) ≡ false) (sym here.rated)
    (lt-leb (rate.bytes * plus f.waited (suc k)) (1000 * plus f.taken b) few))

pub always_cut : IsAlwaysCutBelow
always_cut rate writes counted below some ends =
    always rate writes (begun rate) (record {
      rated = refl;
      slow = omega arith;
      within = some;
      ends = omega (arith, ends);
      time =
          omega (arith, counted.0);
      size = omega (arith, counted.1);
    }) below
