-- Each wait goes to a smaller number.
use Rattle.std.proofs.Common.{◌≡◌, ◌⊎◌, ⊎_elim, ℕ, zero, suc, ◌<◌, List, [], ◌∷◌, Some, None, refl, sym, ap, subst, ◌∙◌, arith}
use Rattle.std.specs.Prelude.{slice_get}
use Rattle.std.proofs.lemmas.Option.{none-some, same_Some}
use Rattle.iiif_machine.specs.Keys.{rank_of}
use Rattle.iiif_machine.proofs.Lists.{get_map}
use Rattle.iiif_machine.specs.Tables.{Class, Wide, Local}
use Rattle.iiif_machine.specs.Rows.{Caller, Lead, Purpose, ForRequest, ForPart, ForFallback, ForAsk, Stage, New, Looked, Asking, Fallback}
use Rattle.iiif_machine.specs.Rows.{Parts, Ready, Ended}
use Rattle.iiif_machine.specs.Worlds.{World}
use Rattle.iiif_machine.specs.Sound.{facts, caller_of, IsHonestWorld, PurposeIsRight, AreFor, StageIsOwn, IsSound}
use Rattle.iiif_tables.specs.Flights.{flight_number}
use Rattle.iiif_machine.specs.Promises.{number_of, IsOf, AwaitedAt, IsAwaited, Waits, WaitsOver, WaitsFall, NoneWaitsForItself}

below : (r s : ℕ) (c d : Class) → r < s → flight_number r c < flight_number s d
below r s Wide Wide h = omega arith
below r s Wide Local h = omega arith
below r s Local Wide h = omega arith
below r s Local Local h = omega arith

local_below : (r s : ℕ) (c d : Class) → r ≡ s → c ≡ Local → d ≡ Wide → flight_number r c < flight_number s d
local_below r s c d e f g = rw (f, g) (omega arith)

falls : (w : World) (f : ℕ) (l : Lead) (who : Caller) (p : Purpose) → IsHonestWorld w → IsOf w f p → PurposeIsRight (facts w) who p →
    slice_get (facts w).leads f ≡ Some l →
    flight_number (rank_of who.key) who.class < flight_number (rank_of l.key) l.class
falls w f l who (ForRequest r) h of right at = absurd of
falls w f l who (ForPart e) h of right at =
    let same : right.0 ≡ l = same_Some right.0 l (sym right.1 ∙ ap (slice_get (facts w).leads) of ∙ at) in
    below (rank_of who.key) (rank_of l.key) who.class l.class (subst (λ (x : Lead). rank_of who.key < rank_of x.key) same right.2)
falls w f l who (ForFallback e) h of right at =
    let same : right.0 ≡ l = same_Some right.0 l (sym right.1 ∙ ap (slice_get (facts w).leads) of ∙ at) in
    let key : l.key ≡ who.key = subst (λ (x : Lead). x.key ≡ who.key) same right.2 in
    let wide : l.class ≡ Wide = subst (λ (x : Lead). x.class ≡ Wide) same right.3 in
    local_below (rank_of who.key) (rank_of l.key) who.class l.class (ap rank_of (sym key)) right.4 wide
falls w f l who (ForAsk a) h of right at =
    let q = right.0 in
    let asked = same_Some q of.0 (sym right.1 ∙ of.1) in
    let flight : q.flight ≡ f = ap (λ x. x.flight) asked ∙ of.2 in
    let from = (h.asks a q right.1).flight in
    let same : from.0 ≡ l = same_Some from.0 l (sym from.1 ∙ ap (slice_get (facts w).leads) flight ∙ at) in
    let key : l.key ≡ q.key = subst (λ (x : Lead). x.key ≡ q.key) same from.2 in
    let wide : l.class ≡ Wide = subst (λ (x : Lead). x.class ≡ Wide) same from.3 in
    local_below (rank_of who.key) (rank_of l.key) who.class l.class (ap rank_of (sym right.2 ∙ sym key)) right.3 wide

-- a call that a flight's stage waits for is one that it made

made_by : (w : World) (f c : ℕ) (p : Purpose) (who : Caller) (cs : List ℕ) (i : ℕ) → AreFor (facts w).callers p cs →
    slice_get cs i ≡ Some c → slice_get (facts w).callers c ≡ Some who →
    who.purpose ≡ p
made_by w f c p who [] i own at is = absurd (none-some c at)
made_by w f c p who (d ∷ cs) zero own at is =
    let same : own.0.0 ≡ who = same_Some own.0.0 who (sym own.0.1 ∙ ap (slice_get (facts w).callers) (same_Some d c at) ∙ is) in
    ap (λ (x : Caller). x.purpose) (sym same) ∙ own.0.2
made_by w f c p who (d ∷ cs) (suc i) own at is = made_by w f c p who cs i own.1 at is

stage_made : (w : World) (f c : ℕ) (who : Caller) (s : Stage) → StageIsOwn (facts w).callers f s → AwaitedAt s c →
    slice_get (facts w).callers c ≡ Some who → IsOf w f who.purpose
stage_made w f c who New own waits is = absurd waits
stage_made w f c who Looked own waits is = absurd waits
stage_made w f c who Asking own waits is = absurd waits
stage_made w f c who (Fallback None) own waits is = absurd waits
stage_made w f c who (Fallback (Some d)) own waits is =
    subst (IsOf w f) (sym (made_by w f c (ForFallback f) who (d ∷ []) 0 own (ap Some (sym waits)) is)) refl
stage_made w f c who (Parts cs) own waits is = subst (IsOf w f) (sym (made_by w f c (ForPart f) who cs waits.0 own waits.1 is)) refl
stage_made w f c who (Ready o p) own waits is = absurd waits
stage_made w f c who (Ended o) own waits is = absurd waits

awaited_made : (w : World) (f c : ℕ) (who : Caller) → IsSound w → slice_get (facts w).callers c ≡ Some who → IsAwaited w f c ⊎
    IsOf w f who.purpose → IsOf w f who.purpose
awaited_made w f c who sound is h =
    ⊎_elim
    (λ (a : IsAwaited w f c). stage_made w f c who a.1 (sound.own.flights f _ a.2) a.3 is)
    (λ (a : IsOf w f who.purpose). a)
    h

pub waits_fall : WaitsFall
waits_fall w sound f g l m waits at there =
    let h = sound.honest in
    let row = h.calls waits.number _ waits.call in
    let is = row.state in
    let same : is.0 ≡ m = same_Some is.0 m (sym is.1 ∙ there) in
    let key : m.key ≡ waits.who.key = subst (λ (x : Lead). x.key ≡ waits.who.key) same is.3 in
    let class : m.class ≡ waits.who.class = subst (λ (x : Lead). x.class ≡ waits.who.class) same is.4 in
    let of = awaited_made w f waits.number waits.who sound (get_map caller_of w.calls waits.number _ waits.call) waits.for in
    let low = falls w f l waits.who waits.who.purpose h of row.caller.purpose at in
    subst (λ k. flight_number (rank_of k) m.class < number_of l) (sym key)
    (subst (λ c. flight_number (rank_of waits.who.key) c < number_of l) (sym class) low)

-- no circle

waiting_by : (w : World) (f : ℕ) (who : Caller) (p : Purpose) → IsHonestWorld w → IsOf w f p → PurposeIsRight (facts w) who p → (l : Lead) ×
    (slice_get (facts w).leads f ≡ Some l)
waiting_by w f who (ForRequest r) h of right = absurd of
waiting_by w f who (ForPart e) h of right = (right.0, ap (slice_get (facts w).leads) (sym of) ∙ right.1)
waiting_by w f who (ForFallback e) h of right = (right.0, ap (slice_get (facts w).leads) (sym of) ∙ right.1)
waiting_by w f who (ForAsk a) h of right =
    let asked = same_Some right.0 of.0 (sym right.1 ∙ of.1) in
    let flight : right.0.flight ≡ f = ap (λ x. x.flight) asked ∙ of.2 in
    let from = (h.asks a right.0 right.1).flight in
    (from.0, ap (slice_get (facts w).leads) (sym flight) ∙ from.1)

-- the lead of a flight that waits, and of one that is waited for
waiting_lead : (w : World) (f g : ℕ) → IsSound w → Waits w f g → (l : Lead) × (slice_get (facts w).leads f ≡ Some l)
waiting_lead w f g sound waits =
    let of = awaited_made w f waits.number waits.who sound (get_map caller_of w.calls waits.number _ waits.call) waits.for in
    waiting_by w f waits.who waits.who.purpose sound.honest of (sound.honest.calls waits.number _ waits.call).caller.purpose

awaited_lead : (w : World) (f g : ℕ) → IsSound w → Waits w f g → (l : Lead) × (slice_get (facts w).leads g ≡ Some l)
awaited_lead w f g sound waits =
    let is = (sound.honest.calls waits.number _ waits.call).state in
    (is.0, is.1)

less_more : (a b c : ℕ) → a < b → b < c → a < c
less_more a b c p q = omega arith

falls_over : (w : World) (n f g : ℕ) (l m : Lead) → IsSound w → WaitsOver w n f g → slice_get (facts w).leads f ≡ Some l →
    slice_get (facts w).leads g ≡ Some m → number_of m < number_of l
falls_over w zero f g l m sound over at there = waits_fall w sound f g l m over at there
falls_over w (suc n) f g l m sound over at there =
    let k = awaited_lead w f over.0 sound over.1 in
    less_more (number_of m) (number_of k.0) (number_of l) (falls_over w n over.0 g k.0 m sound over.2 k.1 there)
    (waits_fall w sound f over.0 l k.0 over.1 at k.1)

first_wait : (w : World) (n f g : ℕ) → IsSound w → WaitsOver w n f g → (l : Lead) × (slice_get (facts w).leads f ≡ Some l)
first_wait w zero f g sound over = waiting_lead w f g sound over
first_wait w (suc n) f g sound over = waiting_lead w f over.0 sound over.1

never_less : (a : ℕ) → a < a → ⊥
never_less a p = omega arith

pub none_waits_for_itself : NoneWaitsForItself
none_waits_for_itself w sound n f over =
    let l = first_wait w n f f sound over in
    never_less (number_of l.0) (falls_over w n f f l.0 l.0 sound over l.1 l.1)
