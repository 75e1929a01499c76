-- What calls know is honest, and what is made of it.
use Rattle.std.proofs.Common.{◌≡◌, ℕ, zero, suc, List, [], ◌∷◌, map, Bool, true, false, Option, Some, None, Result, Ok, Err, refl, sym, ap}
use Rattle.std.proofs.Common.{subst, ◌∙◌, if◌then◌else◌}
use Rattle.std.specs.Prelude.{slice_get}
use Rattle.std.proofs.lemmas.Option.{none-some, same_Some}
use Rattle.iiif_machine.specs.Scenes.{Scene}
use Rattle.iiif_machine.specs.Keys.{name_of, meaning, derived}
use Rattle.iiif_machine.specs.Plans.{items}
use Rattle.iiif_machine.specs.Images.{assembled, image}
use Rattle.iiif_machine.specs.Types.{Key, Value, Resolved, Picture, ReadFault}
use Rattle.iiif_machine.specs.Tables.{Outcome}
use Rattle.iiif_machine.specs.Rows.{Given, Caller, CallState, Fresh, Hit, In, Gone, Call, Lead, Stage, New, Looked, Asking, Fallback}
use Rattle.iiif_machine.specs.Rows.{Parts, Ready, Ended, Flight, RequestInfo}
use Rattle.iiif_machine.specs.Worlds.{World, ◌>>=◌, outcome_of, known_by, learned, all_learned, or_more, learned_to_fault, decided}
use Rattle.iiif_machine.specs.Worlds.{or_fault, collected, outcome_from, answer_from}
use Rattle.iiif_machine.specs.Sound.{Each, Facts, facts, caller_of, lead_in, IsHonest, AreOf, StageIsHonest, StateIsHonest, AnswerIsRight}
use Rattle.iiif_machine.specs.Sound.{IsHonestWorld}
use Rattle.iiif_machine.specs.Promises.{After}

pub bind_inv : {A B : Type 0} (x : Option A) (f : A → Option B) (y : B) → (x >>= f) ≡ Some y → (a : A) × (x ≡ Some a) × (f a ≡ Some y)
bind_inv None f y h = absurd (none-some y h)
bind_inv (Some a) f y h = (a, refl, h)

-- what is made of each value that may be there
pub after_bind : {A : Type 0} (P : World → Type 0) (x : Option A) (f : A → Option World) → ((a : A) → x ≡ Some a → After P (f a)) →
    After P (x >>= f)
after_bind P None f h = tt
after_bind P (Some a) f h = h a refl

pub get_mapped : {A B : Type 0} (g : A → B) (xs : List A) (i : ℕ) (y : B) → slice_get (map g xs) i ≡ Some y → (x : A) ×
    (slice_get xs i ≡ Some x) × (g x ≡ y)
get_mapped g [] i y h = absurd (none-some y h)
get_mapped g (x ∷ xs) zero y h = (x, refl, same_Some (g x) y h)
get_mapped g (x ∷ xs) (suc i) y h = get_mapped g xs i y h

ended_honest : (s : Scene) (a : Facts) (l : Lead) (x : Stage) (o : Outcome) → StageIsHonest s a l x → outcome_of x ≡ Some o →
    IsHonest s a.given l.node l.key o
ended_honest s a l New o h e = absurd (none-some o e)
ended_honest s a l Looked o h e = absurd (none-some o e)
ended_honest s a l Asking o h e = absurd (none-some o e)
ended_honest s a l (Fallback c) o h e = absurd (none-some o e)
ended_honest s a l (Parts cs) o h e = absurd (none-some o e)
ended_honest s a l (Ready r p) o h e = absurd (none-some o e)
ended_honest s a l (Ended None) o h e = absurd (none-some o e)
ended_honest s a l (Ended (Some r)) o h e = subst (IsHonest s a.given l.node l.key) (same_Some r o e) h

known_honest : (w : World) (who : Caller) (x : CallState) (o : Outcome) → IsHonestWorld w → StateIsHonest w.scene (facts w) who x →
    known_by w.flights x ≡ Some o → IsHonest w.scene w.given who.node who.key o
known_honest w who Fresh o h is e = absurd (none-some o e)
known_honest w who (Hit v) o h is e = subst (IsHonest w.scene w.given who.node who.key) (same_Some (Ok v) o e) is
known_honest w who (In f) o h is e =
    let l = is.0 in
    let at = get_mapped lead_in w.flights f l is.1 in
    let fl = at.0 in
    let known = bind_inv (slice_get w.flights f) (λ (x : Flight). outcome_of x.stage) o e in
    let same : known.0 ≡ fl = same_Some known.0 fl (sym known.1 ∙ at.1) in
    let done : outcome_of fl.stage ≡ Some o = subst (λ (x : Flight). outcome_of x.stage ≡ Some o) same known.2 in
    let there : IsHonest w.scene w.given fl.lead.node fl.lead.key o =
    ended_honest w.scene (facts w) fl.lead fl.stage o (h.flights f fl at.1).stage done in
    let here : IsHonest w.scene w.given l.node l.key o = subst (λ (x : Lead). IsHonest w.scene w.given x.node x.key o) at.2 there in
    subst (λ k. IsHonest w.scene w.given who.node k o) is.3 (subst (λ n. IsHonest w.scene w.given n l.key o) is.2 here)
known_honest w who Gone o h is e = absurd (none-some o e)

pub learned_honest : (w : World) (c : ℕ) (who : Caller) (o : Outcome) → IsHonestWorld w → slice_get (facts w).callers c ≡ Some who →
    learned w c ≡ Some o →
    IsHonest w.scene w.given who.node who.key o
learned_honest w c who o h at e =
    let row = get_mapped caller_of w.calls c who at in
    let call = row.0 in
    let known = bind_inv (slice_get w.calls c) (λ (x : Call). known_by w.flights x.state) o e in
    let same : known.0 ≡ call = same_Some known.0 call (sym known.1 ∙ row.1) in
    let knows : known_by w.flights call.state ≡ Some o = subst (λ (x : Call). known_by w.flights x.state ≡ Some o) same known.2 in
    let is = known_honest w call.caller call.state o h (h.calls c call row.1).state knows in
    subst (λ (x : Caller). IsHonest w.scene w.given x.node x.key o) row.2 is

-- the values are the meanings of the keys; or a fault was given
abbrev pub AreGathered : Scene → List Given → ℕ → List ℕ → List Key → Result (List Value) ReadFault → Type 0
AreGathered s given node name ks (Ok vs) = vs ≡ map (meaning s) ks
AreGathered s given node name ks (Err f) = (i : ℕ) × (slice_get given i ≡ Some (record { node = node; name = name; fault = f }))

gathered_fault : (s : Scene) (given : List Given) (node : ℕ) (name : List ℕ) (k : Key) (ks : List Key) (f : ReadFault) →
    name_of k ≡ name → IsHonest s given node k (Err f) → AreGathered s given node name (k ∷ ks) (Err f)
gathered_fault s given node name k ks f named is =
    (is.0, subst (λ n. slice_get given is.0 ≡ Some (record { node = node; name = n; fault = f })) named is.1)

gathered_more : (s : Scene) (given : List Given) (node : ℕ) (name : List ℕ) (k : Key) (ks : List Key) (o : Outcome)
    (r : Result (List Value) ReadFault) →
    name_of k ≡ name → IsHonest s given node k o → AreGathered s given node name ks r →
    AreGathered s given node name (k ∷ ks) (or_fault o r)
gathered_more s given node name k ks (Err f) r named is rest = gathered_fault s given node name k ks f named is
gathered_more s given node name k ks (Ok v) (Err f) named is rest = rest
gathered_more s given node name k ks (Ok v) (Ok vs) named is rest = ap (λ x. x ∷ vs) is ∙ ap (λ xs. meaning s k ∷ xs) rest

gathered_all : (w : World) (node : ℕ) (name : List ℕ) (cs : List ℕ) (ks : List Key) (os : List Outcome) → IsHonestWorld w →
    AreOf (facts w).callers node cs ks → Each (λ k. name_of k ≡ name) ks → all_learned w cs ≡ Some os →
    AreGathered w.scene w.given node name ks (collected os)
gathered_all w node name [] [] os h are named e =
    subst (λ xs. AreGathered w.scene w.given node name [] (collected xs)) (same_Some {A = List Outcome} [] os e) refl
gathered_all w node name [] (k ∷ ks) os h are named e = absurd are
gathered_all w node name (c ∷ cs) [] os h are named e = absurd are
gathered_all w node name (c ∷ cs) (k ∷ ks) os h are named e =
    let first = bind_inv (learned w c) (λ o. all_learned w cs >>= (λ os. Some (o ∷ os))) os e in
    let o = first.0 in
    let rest = bind_inv (all_learned w cs) (λ xs. Some (o ∷ xs)) os first.2 in
    let who = are.0.0 in
    let known : IsHonest w.scene w.given who.node who.key o = learned_honest w c who o h are.0.1 first.1 in
    let here : IsHonest w.scene w.given node k o =
    subst (λ q. IsHonest w.scene w.given node q o) are.0.3 (subst (λ n. IsHonest w.scene w.given n who.key o) are.0.2 known) in
    let more = gathered_all w node name cs ks rest.0 h are.1 (λ i x at. named (suc i) x at) rest.1 in
    subst (λ xs. AreGathered w.scene w.given node name (k ∷ ks) (collected xs)) (same_Some (o ∷ rest.0) os rest.2)
    (gathered_more w.scene w.given node name k ks o (collected rest.0) (named 0 k refl) here more)

gathered_to_fault : (w : World) (node : ℕ) (name : List ℕ) (cs : List ℕ) (ks : List Key) (os : List Outcome) → IsHonestWorld w →
    AreOf (facts w).callers node cs ks → Each (λ k. name_of k ≡ name) ks → learned_to_fault w cs ≡ Some os →
    AreGathered w.scene w.given node name ks (collected os)
gathered_to_fault w node name [] [] os h are named e =
    subst (λ xs. AreGathered w.scene w.given node name [] (collected xs)) (same_Some {A = List Outcome} [] os e) refl
gathered_to_fault w node name [] (k ∷ ks) os h are named e = absurd are
gathered_to_fault w node name (c ∷ cs) [] os h are named e = absurd are
gathered_to_fault w node name (c ∷ cs) (k ∷ ks) os h are named e =
    let first = bind_inv (learned w c) (λ o. or_more o (learned_to_fault w cs)) os e in
    let o = first.0 in
    let who = are.0.0 in
    let known : IsHonest w.scene w.given who.node who.key o = learned_honest w c who o h are.0.1 first.1 in
    let here : IsHonest w.scene w.given node k o =
    subst (λ q. IsHonest w.scene w.given node q o) are.0.3 (subst (λ n. IsHonest w.scene w.given n who.key o) are.0.2 known) in
    by o here first.2 (λ xs is. gathered_to_fault w node name cs ks xs h are.1 (λ i x at. named (suc i) x at) is)
  where
    by : (o : Outcome) → IsHonest w.scene w.given node k o → or_more o (learned_to_fault w cs) ≡ Some os →
        ((xs : List Outcome) → learned_to_fault w cs ≡ Some xs → AreGathered w.scene w.given node name ks (collected xs)) →
        AreGathered w.scene w.given node name (k ∷ ks) (collected os)
    by (Err f) here is more =
        subst (λ xs. AreGathered w.scene w.given node name (k ∷ ks) (collected xs)) (same_Some {A = List Outcome} (Err f ∷ []) os is)
        (gathered_fault w.scene w.given node name k ks f (named 0 k refl) here)
    by (Ok v) here is more =
        let rest = bind_inv (learned_to_fault w cs) (λ xs. Some (Ok v ∷ xs)) os is in
        subst (λ xs. AreGathered w.scene w.given node name (k ∷ ks) (collected xs)) (same_Some (Ok v ∷ rest.0) os rest.2)
        (gathered_more w.scene w.given node name k ks (Ok v) (collected rest.0) (named 0 k refl) here (more rest.0 rest.1))

pub gathered : (w : World) (node : ℕ) (name : List ℕ) (cs : List ℕ) (ks : List Key) (os : List Outcome) → IsHonestWorld w →
    AreOf (facts w).callers node cs ks → Each (λ k. name_of k ≡ name) ks → decided w cs ≡ Some os →
    AreGathered w.scene w.given node name ks (collected os)
gathered w node name cs ks os h are named e = by w.scene.faults_early e
  where
    by : (b : Bool) → (if b then learned_to_fault w cs else all_learned w cs) ≡ Some os →
        AreGathered w.scene w.given node name ks (collected os)
    by true is = gathered_to_fault w node name cs ks os h are named is
    by false is = gathered_all w node name cs ks os h are named is

pub merged_honest : (s : Scene) (given : List Given) (node : ℕ) (k : Key) (ks : List Key) (r : Result (List Value) ReadFault) →
    derived s k (map (meaning s) ks) ≡ meaning s k → AreGathered s given node (name_of k) ks r →
    IsHonest s given node k (outcome_from s k r)
merged_honest s given node k ks (Ok vs) derives h = ap (derived s k) h ∙ derives
merged_honest s given node k ks (Err f) derives h = h

pub answer_right : (s : Scene) (given : List Given) (q : RequestInfo) (p : Picture) (r : Resolved) (x : Result (List Value) ReadFault) →
    s.shows q.name ≡ Some p →
    image s p q.request ≡ Ok (assembled s p r (map (meaning s) (items s q.name p r))) →
    AreGathered s given q.node q.name (items s q.name p r) x → AnswerIsRight s given q (answer_from s p r x)
answer_right s given q p r (Ok vs) shown is h = (p, shown, is ∙ ap (λ vs. Ok (assembled s p r vs)) (sym h))
answer_right s given q p r (Err f) shown is h = h
