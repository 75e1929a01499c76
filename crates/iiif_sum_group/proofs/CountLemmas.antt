-- Counts of the calls for a block's parts, and facts of a copy.
use Rattle.std.proofs.Common.{◌≡◌, ℕ, zero, suc, ◌+◌, ◌-◌, ◌*◌, ◌<◌, ◌≤◌, List, Result, Ok, Err, length, refl, subst, sym, arith}
use Rattle.std.specs.Prelude.{◌^◌, IfErr, IfOk, OnOk}
use Rattle.std.proofs.Math.Nat.{pow-succ'}
use Rattle.iiif_keys.specs.Meaning.{sums_below}
use Rattle.iiif_keys.specs.declared.fault.Fault.{Fault}
use Rattle.iiif_keys.specs.declared.fault.Fault.TheVariants.{NoMemory}
use Rattle.iiif_keys.specs.declared.keys.SumKey.{SumKey}
use Rattle.iiif_group.specs.declared.passes.Passes.{Passes}
use Rattle.iiif_sum_group.specs.Asking.{AskedAll, AsksSoMany}
use Rattle.iiif_sum_group.specs.Below.{blocks_below, AsksBelow, AsksFor, AsksParts}
use Rattle.iiif_sum_group.proofs.SumLemmas.{few_parts}

-- The counts of one part more. What a part counts at most, by its level, is any function.
pub one_part_more : (most : ℕ → ℕ) (level part old mid new i : ℕ) → part + 1 ≡ level → mid ≤ old + i * most (level - 1) →
    new ≤ mid + most part → new ≤ old + (i + 1) * most (level - 1)
one_part_more most level part old mid new i below before more =
    let is : part ≡ level - 1 = omega (arith, below) in
    let here : new ≤ mid + most (level - 1) = subst (λ (l : ℕ). new ≤ mid + most l) is more in
    omega (arith, before, here)

-- those of fewer parts
pub of_fewer : (old new i n most : ℕ) → i ≤ n → new ≤ old + i * most → new ≤ old + n * most
of_fewer old new i n most le h = grind arith

-- four parts make the block's
pub sums_of_parts : (level n old new : ℕ) → 0 < level → n ≤ 4 → new ≤ old + n * (2 * (1 + blocks_below (level - 1))) →
    new ≤ old + 2 * blocks_below level
unfolding blocks_below
sums_of_parts zero n old new above few h = absurd (omega arith)
sums_of_parts (suc level) n old new above few h =
    let is : suc level - 1 ≡ level = omega arith in
    let each : new ≤ old + n * (2 * (1 + blocks_below level)) =
    subst (λ (l : ℕ). new ≤ old + n * (2 * (1 + blocks_below l))) is h in
    let four : new ≤ old + 4 * (2 * (1 + blocks_below level)) = of_fewer old new n 4 _ few each in
    let all : blocks_below (suc level) ≡ 4 * (1 + blocks_below level) = refl in
    omega (arith, four, all)

pub tiles_of_parts : (level n old new : ℕ) → 0 < level → n ≤ 4 → new ≤ old + n * (2 * 4 ^ (level - 1)) → new ≤ old + 2 * 4 ^ level
tiles_of_parts zero n old new above few h = absurd (omega arith)
tiles_of_parts (suc level) n old new above few h =
    let is : suc level - 1 ≡ level = omega arith in
    let each : new ≤ old + n * (2 * 4 ^ level) = subst (λ (l : ℕ). new ≤ old + n * (2 * 4 ^ l)) is h in
    let four : new ≤ old + 4 * (2 * 4 ^ level) = of_fewer old new n 4 _ few each in
    let all : 4 ^ suc level ≡ 4 * 4 ^ level = pow-succ' 4 level in
    omega (arith, four, all)

-- one part more was asked for, of so many
pub one_more_asked : {J : Type 0} (key part : SumKey) (old mid new : Passes J) (i n : ℕ) → part.level + 1 ≡ key.level → i < n →
    mid.sum.gets ≤ old.sum.gets + i * (2 * (1 + blocks_below (key.level - 1)))
    → mid.tile.gets ≤ old.tile.gets + i * (2 * 4 ^ (key.level - 1)) → AsksFor part mid new → AsksSoMany key.level n old new
one_more_asked key part old mid new i n below inside sums tiles asked =
    let more : i + 1 ≤ n = omega (arith, inside) in
    record {
      sums = of_fewer old.sum.gets new.sum.gets (i + 1) n (2 * (1 + blocks_below (key.level - 1))) more
          (one_part_more (λ l. 2 * (1 + blocks_below l)) key.level part.level old.sum.gets mid.sum.gets new.sum.gets i below sums
          asked.sums);
      tiles = of_fewer old.tile.gets new.tile.gets (i + 1) n (2 * 4 ^ (key.level - 1)) more
          (one_part_more (λ l. 2 * 4 ^ l) key.level part.level old.tile.gets mid.tile.gets new.tile.gets i below tiles asked.tiles);
    }

-- a block of level 0 has no block below it, and one tile
pub below_of_tile : {J : Type 0} (key : SumKey) (old new : Passes J) → key.level ≡ 0 → new.sum ≡ old.sum →
    new.sum.gets ≡ old.sum.gets → new.tile.gets ≤ old.tile.gets + 2 → AsksBelow key old new
below_of_tile key old new level same gets few = record {
  alone = λ e. same;
  sums = omega (arith, gets);
  tiles = subst (λ (l : ℕ). new.tile.gets ≤ old.tile.gets + 2 * 4 ^ l) (sym level) few;
}

-- any other has what lies in its parts
pub below_of_parts : {J : Type 0} (key : SumKey) (keys : List SumKey) (old new : Passes J) → 0 < key.level → keys ≡ sums_below key →
    AsksSoMany key.level (length keys) old new → AsksBelow key old new
below_of_parts key keys old new above are asked =
    let few : length keys ≤ 4 = subst (λ (ks : List SumKey). length ks ≤ 4) (sym are) (few_parts key) in
    record {
      alone = λ level. absurd (omega (arith, above, level));
      sums = sums_of_parts key.level (length keys) old.sum.gets new.sum.gets above few asked.sums;
      tiles = tiles_of_parts key.level (length keys) old.tile.gets new.tile.gets above few asked.tiles;
    }

-- its parts are its quarters
pub parts_of_quarters : {J : Type 0} (key : SumKey) (keys : List SumKey) (old new : Passes J) → 0 < key.level → keys ≡ sums_below key →
    AskedAll keys old new → AsksParts key old new
parts_of_quarters key keys old new above are asked = record {
  tile = λ level. absurd (omega (arith, above, level));
  quarters = λ high. subst (λ (ks : List SumKey). old.sum.gets + length ks ≤ new.sum.gets) are asked;
}

-- what is true of a value is true of its copy
pub of_copy : {V : Type 0} {E : Type 0} (copy : Result V E) (value : V) (P : V → Type 0) → IfOk copy (λ v. v ≡ value) → P value →
    IfOk copy P
of_copy (Ok v) value P is holds = subst P (sym is) holds
of_copy (Err e) value P is holds = tt

-- the only fault is lack of memory
pub of_wanting : {V : Type 0} (copy : Result V Fault) (P : Fault → Type 0) → IfErr copy (λ f. f ≡ NoMemory) → P NoMemory → IfErr copy P
of_wanting (Ok v) P is holds = tt
of_wanting (Err f) P is holds = subst P (sym is) holds

pub where_ok : {V E : Type 0} (copy : Result V E) (P : Type 0) → P → OnOk copy P
where_ok (Ok v) P holds = holds
where_ok (Err e) P holds = tt
