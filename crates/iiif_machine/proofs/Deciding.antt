-- What decides what comes of some calls.
use Rattle.std.proofs.Common.{◌≡◌, ℕ, List, [], ◌∷◌, ◌++◌, map, Bool, true, false, Option, Some, None, Ok, Err, refl, sym, ap, subst, ◌∙◌}
use Rattle.std.proofs.Common.{if◌then◌else◌}
use Rattle.std.proofs.lemmas.Option.{none-some, same_Some}
use Rattle.iiif_machine.specs.Scenes.{Scene}
use Rattle.iiif_machine.specs.Types.{Value}
use Rattle.iiif_machine.specs.Tables.{Outcome}
use Rattle.iiif_machine.specs.Worlds.{World, ◌>>=◌, learned, all_learned, or_more, learned_to_fault, decided, or_fault, collected}
use Rattle.iiif_machine.specs.Promises.{AllDecide, EarlyIsSame, FirstFaultDecides}
use Rattle.iiif_machine.proofs.Learning.{bind_inv}

pub none_from : {A : Type 0} (x y : Option A) → ((a : A) → y ≡ Some a → x ≡ Some a) → x ≡ None → y ≡ None
none_from x None h e = refl
none_from x (Some a) h e = absurd (none-some a (sym e ∙ h a refl))

-- in two worlds these calls know the same
abbrev pub KnowSame : World → World → List ℕ → Type 0
KnowSame u w [] = Unit {0}
KnowSame u w (c ∷ cs) = (learned u c ≡ learned w c) × KnowSame u w cs

all_same : (u w : World) (cs : List ℕ) → KnowSame u w cs → all_learned u cs ≡ all_learned w cs
all_same u w [] h = refl
all_same u w (c ∷ cs) h =
    ap (λ (z : Option Outcome). z >>= (λ (o : Outcome). all_learned u cs >>= (λ (os : List Outcome). Some (o ∷ os)))) h.0
    ∙ ap (λ (zs : Option (List Outcome)). learned w c >>= (λ (o : Outcome). zs >>= (λ (os : List Outcome). Some (o ∷ os))))
    (all_same u w cs h.1)

to_fault_same : (u w : World) (cs : List ℕ) → KnowSame u w cs → learned_to_fault u cs ≡ learned_to_fault w cs
to_fault_same u w [] h = refl
to_fault_same u w (c ∷ cs) h =
    ap (λ (z : Option Outcome). z >>= (λ (o : Outcome). or_more o (learned_to_fault u cs))) h.0
    ∙ ap (λ (zs : Option (List Outcome)). learned w c >>= (λ (o : Outcome). or_more o zs)) (to_fault_same u w cs h.1)

pub decided_same : (u w : World) (cs : List ℕ) → u.scene ≡ w.scene → KnowSame u w cs → decided u cs ≡ decided w cs
decided_same u w cs scene same =
    ap (λ (s : Scene). if s.faults_early then learned_to_fault u cs else all_learned u cs) scene ∙ by w.scene.faults_early
  where
    by : (b : Bool) → (if b then learned_to_fault u cs else all_learned u cs) ≡ (if b then learned_to_fault w cs else all_learned w cs)
    by true = to_fault_same u w cs same
    by false = all_same u w cs same

-- what calls know in one world, they know in the other
abbrev pub KnowsMore : World → World → Type 0
KnowsMore v w = (c : ℕ) (o : Outcome) → learned v c ≡ Some o → learned w c ≡ Some o

all_more : (v w : World) → KnowsMore v w → (cs : List ℕ) (os : List Outcome) → all_learned v cs ≡ Some os → all_learned w cs ≡ Some os
all_more v w h [] os e = e
all_more v w h (c ∷ cs) os e =
    let first = bind_inv (learned v c) (λ o. all_learned v cs >>= (λ os. Some (o ∷ os))) os e in
    let rest = bind_inv (all_learned v cs) (λ xs. Some (first.0 ∷ xs)) os first.2 in
    ap (λ (z : Option Outcome). z >>= (λ (o : Outcome). all_learned w cs >>= (λ (xs : List Outcome). Some (o ∷ xs)))) (h c first.0 first.1)
    ∙ ap (λ (zs : Option (List Outcome)). zs >>= (λ (xs : List Outcome). Some (first.0 ∷ xs))) (all_more v w h cs rest.0 rest.1)
    ∙ rest.2

to_fault_more : (v w : World) → KnowsMore v w → (cs : List ℕ) (os : List Outcome) → learned_to_fault v cs ≡ Some os →
    learned_to_fault w cs ≡ Some os
to_fault_more v w h [] os e = e
to_fault_more v w h (c ∷ cs) os e =
    let first = bind_inv (learned v c) (λ o. or_more o (learned_to_fault v cs)) os e in
    ap (λ (z : Option Outcome). z >>= (λ (o : Outcome). or_more o (learned_to_fault w cs))) (h c first.0 first.1)
    ∙ by first.0 first.2 (to_fault_more v w h cs)
  where
    by : (o : Outcome) → or_more o (learned_to_fault v cs) ≡ Some os →
        ((xs : List Outcome) → learned_to_fault v cs ≡ Some xs → learned_to_fault w cs ≡ Some xs) →
        or_more o (learned_to_fault w cs) ≡ Some os
    by (Err f) is more = is
    by (Ok x) is more =
        let rest = bind_inv (learned_to_fault v cs) (λ xs. Some (Ok x ∷ xs)) os is in
        ap (λ (zs : Option (List Outcome)). zs >>= (λ (xs : List Outcome). Some (Ok x ∷ xs))) (more rest.0 rest.1) ∙ rest.2

decided_more : (v w : World) → v.scene ≡ w.scene → KnowsMore v w → (cs : List ℕ) (os : List Outcome) → decided v cs ≡ Some os →
    decided w cs ≡ Some os
decided_more v w scene h cs os e =
    by w.scene.faults_early (subst (λ (s : Scene). (if s.faults_early then learned_to_fault v cs else all_learned v cs) ≡ Some os) scene e)
  where
    by : (b : Bool) → (if b then learned_to_fault v cs else all_learned v cs) ≡ Some os →
        (if b then learned_to_fault w cs else all_learned w cs) ≡ Some os
    by true is = to_fault_more v w h cs os is
    by false is = all_more v w h cs os is

-- so what isn't decided where calls know more isn't where they know less
pub decided_none : (v w : World) → v.scene ≡ w.scene → KnowsMore v w → (cs : List ℕ) → decided w cs ≡ None → decided v cs ≡ None
decided_none v w scene h cs = none_from (decided w cs) (decided v cs) (decided_more v w scene h cs)

-- a first call that knows nothing leaves all open
pub first_open : (w : World) (c : ℕ) (cs : List ℕ) → learned w c ≡ None → decided w (c ∷ cs) ≡ None
first_open w c cs none = by w.scene.faults_early
  where
    by : (b : Bool) → (if b then learned_to_fault w (c ∷ cs) else all_learned w (c ∷ cs)) ≡ None
    by true = ap (λ (z : Option Outcome). z >>= (λ (o : Outcome). or_more o (learned_to_fault w cs))) none
    by false = ap (λ (z : Option Outcome). z >>= (λ (o : Outcome). all_learned w cs >>= (λ (os : List Outcome). Some (o ∷ os)))) none

-- The laws.

pub all_decide : AllDecide
all_decide w cs off = ap (λ (b : Bool). if b then learned_to_fault w cs else all_learned w cs) off

to_fault_all : (w : World) (cs : List ℕ) (os : List Outcome) → all_learned w cs ≡ Some os →
    (ds : List Outcome) × (learned_to_fault w cs ≡ Some ds) × (collected ds ≡ collected os)
to_fault_all w [] os e = (os, e, refl)
to_fault_all w (c ∷ cs) os e =
    let first = bind_inv (learned w c) (λ o. all_learned w cs >>= (λ os. Some (o ∷ os))) os e in
    let rest = bind_inv (all_learned w cs) (λ xs. Some (first.0 ∷ xs)) os first.2 in
    let x = by first.0 rest.0 (to_fault_all w cs rest.0 rest.1) in (
      x.0,
      ap (λ (z : Option Outcome). z >>= (λ (o : Outcome). or_more o (learned_to_fault w cs))) first.1 ∙ x.1,
      x.2 ∙ ap collected (same_Some (first.0 ∷ rest.0) os rest.2),
    )
  where
    by : (o : Outcome) (xs : List Outcome) →
        ((ds : List Outcome) × (learned_to_fault w cs ≡ Some ds) × (collected ds ≡ collected xs)) →
        (ds : List Outcome) × (or_more o (learned_to_fault w cs) ≡ Some ds) × (collected ds ≡ or_fault o (collected xs))
    by (Err f) xs more = (Err f ∷ [], refl, refl)
    by (Ok v) xs more = (
      Ok v ∷ more.0,
      ap (λ (zs : Option (List Outcome)). zs >>= (λ (ys : List Outcome). Some (Ok v ∷ ys))) more.1,
      ap (or_fault (Ok v)) more.2,
    )

pub early_is_same : EarlyIsSame
early_is_same w cs os e = by w.scene.faults_early
  where
    by : (b : Bool) → (ds : List Outcome) × ((if b then learned_to_fault w cs else all_learned w cs) ≡ Some ds) ×
        (collected ds ≡ collected os)
    by true = to_fault_all w cs os e
    by false = (os, e, refl)

behind : (x : Option (List Outcome)) → x ≡ (x >>= (λ (xs : List Outcome). Some ([] ++ xs)))
behind None = refl
behind (Some xs) = refl

behind_more : (v : Value) (vs : List Outcome) (x : Option (List Outcome)) →
    ((x >>= (λ (xs : List Outcome). Some (vs ++ xs))) >>= (λ (ys : List Outcome). Some (Ok v ∷ ys)))
    ≡ (x >>= (λ (xs : List Outcome). Some ((Ok v ∷ vs) ++ xs)))
behind_more v vs None = refl
behind_more v vs (Some xs) = refl

-- behind calls that know values
past_values : (w : World) (cs ds : List ℕ) (vs : List Value) → all_learned w cs ≡ Some (map (λ v. Ok v) vs) →
    learned_to_fault w (cs ++ ds) ≡ (learned_to_fault w ds >>= (λ (xs : List Outcome). Some (map (λ v. Ok v) vs ++ xs)))
past_values w [] ds [] e = behind (learned_to_fault w ds)
past_values w [] ds (v ∷ vs) e = absurd cc
past_values w (c ∷ cs) ds vs e =
    let first = bind_inv (learned w c) (λ o. all_learned w cs >>= (λ os. Some (o ∷ os))) (map (λ v. Ok v) vs) e in
    let rest = bind_inv (all_learned w cs) (λ xs. Some (first.0 ∷ xs)) (map (λ v. Ok v) vs) first.2 in
    by vs first.0 rest.0 first.1 rest.1 (same_Some (first.0 ∷ rest.0) (map (λ v. Ok v) vs) rest.2) (past_values w cs ds)
  where
    by : (vs : List Value) (o : Outcome) (os : List Outcome) → learned w c ≡ Some o → all_learned w cs ≡ Some os →
        o ∷ os ≡ map (λ v. Ok v) vs →
        ((ys : List Value) → all_learned w cs ≡ Some (map (λ v. Ok v) ys) →
        learned_to_fault w (cs ++ ds) ≡ (learned_to_fault w ds >>= (λ (xs : List Outcome). Some (map (λ v. Ok v) ys ++ xs)))) →
        learned_to_fault w (c ∷ (cs ++ ds)) ≡ (learned_to_fault w ds >>= (λ (xs : List Outcome). Some (map (λ v. Ok v) vs ++ xs)))
    by [] o os knows all same more = absurd cc
    by (v ∷ vs) o os knows all same more =
        let is : o ≡ Ok v = cc in
        let are : os ≡ map (λ v. Ok v) vs = cc in
        ap (λ (z : Option Outcome). z >>= (λ (x : Outcome). or_more x (learned_to_fault w (cs ++ ds)))) (knows ∙ ap Some is)
        ∙ ap (λ (zs : Option (List Outcome)). zs >>= (λ (ys : List Outcome). Some (Ok v ∷ ys))) (more vs (all ∙ ap Some are))
        ∙ behind_more v (map (λ v. Ok v) vs) (learned_to_fault w ds)

pub first_fault_decides : FirstFaultDecides
first_fault_decides w cs ds c vs early all =
    let on : decided w (cs ++ c ∷ ds) ≡ learned_to_fault w (cs ++ c ∷ ds) =
    ap (λ (b : Bool). if b then learned_to_fault w (cs ++ c ∷ ds) else all_learned w (cs ++ c ∷ ds)) early in
    let past = on ∙ past_values w cs (c ∷ ds) vs all in (
      λ f knows. past ∙ ap (λ (z : Option Outcome). (z >>= (λ (o : Outcome). or_more o (learned_to_fault w ds))) >>=
          (λ (xs : List Outcome). Some (map (λ v. Ok v) vs ++ xs))) knows,
      λ none. past ∙ ap (λ (z : Option Outcome). (z >>= (λ (o : Outcome). or_more o (learned_to_fault w ds))) >>=
          (λ (xs : List Outcome). Some (map (λ v. Ok v) vs ++ xs))) none,
    )
