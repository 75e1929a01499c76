-- Sums that are kept.
use Rattle.std.proofs.Common.{◌≡◌, ℕ, ◌+◌, ◌<◌, ◌≤◌, inl, inr, List, [], ◌∷◌, ◌++◌, All, length, get_or, take}
use Rattle.std.proofs.Common.{Result, Ok, Err, refl, sym, subst, ap, ◌∙◌, arith}
use Rattle.std.specs.Prelude.{Contains}
use Rattle.std.specs.Arc.{arc_value}
use Rattle.std.proofs.lemmas.List.{length_push, take_all, take_more}
use Rattle.std.proofs.lemmas.List.Elements.{All-push, All-same, Contains-get_or}
use Rattle.std.specs.declared.alloc.Global.{Global}
use Rattle.std.specs.declared.vec.Vec.{Vec}
use Rattle.iiif_keys.specs.declared.fault.Fault.{Fault}
use Rattle.iiif_keys.specs.declared.keys.SumKey.{SumKey}
use Rattle.iiif_keys.specs.declared.values.SumVal.{SumVal}
use Rattle.iiif_planner.specs.declared.plans.Plan.{Plan}
use Rattle.iiif_planner.specs.declared.plans.Plan.TheVariants.{Copy, Grow, Sum}
use Rattle.iiif_assemble.specs.Gathering.{HasItem}
use Rattle.iiif_assemble.specs.Kept.{most_kept, AreFew, AreKept, AreOfItems, AreOneEach, HasAll, HasKept, IsKeptToo, IsOfItems}
use Rattle.iiif_assemble.specs.Kept.{KeepsFew, KeepsOwn}
use Rattle.iiif_assemble.specs.declared.kept.KeptSum.{KeptSum}
use Rattle.iiif_assemble.proofs.ZipLemmas.{all_values, one_more}

-- one more
pub kept_more : (means : SumKey → SumVal → Type 0) (old new : List KeptSum) (k : SumKey) (v : SumVal) → AreKept means old → means k v →
    IsKeptToo k v old new → AreKept means new
kept_more means old new k v all meant too =
    let P : KeptSum → Type 0 = λ t. means t.key (arc_value t.value) in
    let s = too.0 in
    let own : P s = subst (λ (w : SumVal). means s.key w) (sym too.2) (subst (λ (q : SumKey). means q v) (sym too.1) meant) in
    All-same P new (old ++ s ∷ []) too.3 (All-push P old s all own)

-- one more that is of one of the items
pub of_items_more : (keys : List SumKey) (items : List ℕ) (old new : List KeptSum) (k : SumKey) (v : SumVal) → AreOfItems keys items old →
    IsOfItems keys items k → IsKeptToo k v old new → AreOfItems keys items new
of_items_more keys items old new k v all is too =
    let P : KeptSum → Type 0 = λ t. IsOfItems keys items t.key in
    let s = too.0 in
    All-same P new (old ++ s ∷ []) too.3 (All-push P old s all (subst (IsOfItems keys items) (sym too.1) is))

-- and it is one more
pub one_longer : (old new : List KeptSum) (k : SumKey) (v : SumVal) → IsKeptToo k v old new → length new ≡ length old + 1
one_longer old new k v too = ap (λ (xs : List KeptSum). length xs) too.3 ∙ length_push old too.0

-- one more for one more item
pub each_more : (keys : List SumKey) (items : List ℕ) (old new : List KeptSum) (i : ℕ) (k : SumKey) (v : SumVal) → i < length items →
    AreOneEach keys (take i items) old → get_or items i 0 < length keys → get_or keys (get_or items i 0) k ≡ k → IsKeptToo k v old new →
    AreOneEach keys (take (i + 1) items) new
each_more keys items old new i k v within before inside is too =
    let means : SumKey → KeptSum → Type 0 = λ q t. q ≡ t.key in
    subst (λ (ts : List KeptSum). AreOneEach keys (take (i + 1) items) ts) (sym too.3)
    (one_more means keys items old i k too.0 within before inside is (sym too.1))

-- as many as items
pub each_len : (keys : List SumKey) (items : List ℕ) (kept : List KeptSum) → AreOneEach keys items kept → length kept ≡ length items
each_len keys [] [] h = refl
each_len keys [] (s ∷ ss) h = absurd h
each_len keys (i ∷ is) [] h = absurd h
each_len keys (i ∷ is) (s ∷ ss) h = let e = each_len keys is ss h.1 in omega arith

-- of a plan that isn't of blocks the same are kept
pub tiles_keep : (plan : Plan) (items : List ℕ) (old : List KeptSum) → ((keys : Vec SumKey Global) → plan ≡ Sum keys → ⊥) →
    KeepsFew plan items old old (Ok tt)
tiles_keep (Copy keys) items old other = record { few = λ h. h; own = refl; none = tt }
tiles_keep (Grow keys) items old other = record { few = λ h. h; own = refl; none = tt }
tiles_keep (Sum keys) items old other = absurd (other keys refl)

-- so are they where all are there
pub all_keep : (plan : Plan) (keys : Vec SumKey Global) (ks : List SumKey) (items is : List ℕ) (old ps : List KeptSum) → plan ≡ Sum keys →
    ks ≡ keys.items → is ≡ items → ps ≡ old → HasAll ks is ps → KeepsFew plan items old old (Ok tt)
all_keep plan keys ks items is old ps of_plan k i p all =
    let there : HasAll keys.items items old = subst (λ (xs : List KeptSum). HasAll keys.items items xs) p
    (subst (λ (js : List ℕ). HasAll keys.items js ps) i (subst (λ (qs : List SumKey). HasAll qs is ps) k all)) in
    record {
      few = λ h. h;
      own = subst (λ (q : Plan). KeepsOwn q items old old) (sym of_plan) (inl (refl, there));
      none = tt;
    }

-- none are after a fault
pub none_kept : (plan : Plan) (items : List ℕ) (old new : List KeptSum) (r : Result Unit Fault) (f : Fault) → r ≡ Err f → new ≡ [] →
    KeepsFew plan items old new r
none_kept plan items old new r f is none =
    let few : AreFew new = subst AreFew (sym none) (omega arith) in
    subst (λ (e : Result Unit Fault). KeepsFew plan items old new e) (sym is) (record { few = λ h. few; own = tt; none = none })

-- of many blocks those that were kept
pub some_kept : (plan : Plan) (keys : Vec SumKey Global) (ks : List SumKey) (items is : List ℕ) (old ps new : List KeptSum) →
    plan ≡ Sum keys → ks ≡ keys.items → is ≡ items → ps ≡ old → most_kept < length is → AreOfItems ks is new → length new ≤ length ps →
    KeepsFew plan items old new (Ok tt)
some_kept plan keys ks items is old ps new of_plan k i p many own fewer =
    let of_items : AreOfItems keys.items items new = subst (λ (js : List ℕ). AreOfItems keys.items js new) i
    (subst (λ (qs : List SumKey). AreOfItems qs is new) k own) in
    let more : most_kept < length items = subst (λ (js : List ℕ). most_kept < length js) i many in
    let less : length new ≤ length old = subst (λ (xs : List KeptSum). length new ≤ length xs) p fewer in
    record {
      few = λ h. omega (arith, h, less);
      own = subst (λ (q : Plan). KeepsOwn q items old new) (sym of_plan) (inr (inr (more, of_items, less)));
      none = tt;
    }

-- of others one for each
pub each_kept : (plan : Plan) (keys : Vec SumKey Global) (ks : List SumKey) (items is : List ℕ) (old new : List KeptSum) →
    plan ≡ Sum keys → ks ≡ keys.items → is ≡ items → length is ≤ most_kept → AreOneEach ks is new → KeepsFew plan items old new (Ok tt)
each_kept plan keys ks items is old new of_plan k i few own =
    let each : AreOneEach keys.items items new = subst (λ (js : List ℕ). AreOneEach keys.items js new) i
    (subst (λ (qs : List SumKey). AreOneEach qs is new) k own) in
    let within : length items ≤ most_kept = subst (λ (js : List ℕ). length js ≤ most_kept) i few in
    let as_many = each_len keys.items items new each in
    record {
      few = λ h. omega (arith, within, as_many);
      own = subst (λ (q : Plan). KeepsOwn q items old new) (sym of_plan) (inr (inl (within, each)));
      none = tt;
    }

-- the key at an item is of the items
pub item_is : (keys : List SumKey) (items : List ℕ) (n : ℕ) (k key : SumKey) → n < length items → get_or items n 0 < length keys →
    k ≡ get_or keys (get_or items n 0) k → k ≡ key → IsOfItems keys items key
item_is keys items n k key within inside is same = (get_or items n 0, Contains-get_or items n 0 within, (k, inside, sym is, same))

-- a sum is kept for one item more
pub has_more : (keys : List SumKey) (items : List ℕ) (kept : List KeptSum) (n : ℕ) (k : SumKey) (s : KeptSum) → n < length items →
    HasAll keys (take n items) kept → get_or items n 0 < length keys → k ≡ get_or keys (get_or items n 0) k → s.key ≡ k →
    Contains kept s → HasAll keys (take (n + 1) items) kept
has_more keys items kept n k s within before inside is same has =
    let P : ℕ → Type 0 = HasItem keys (HasKept kept) in
    subst (λ (js : List ℕ). All P js) (sym (take_more items n 0 within))
    (All-push P (take n items) (get_or items n 0) before (k, inside, sym is, (s, has, same)))

-- and for all of them
pub has_of_all : (keys : List SumKey) (items : List ℕ) (kept : List KeptSum) (n : ℕ) → length items ≤ n → HasAll keys (take n items) kept →
    HasAll keys items kept
has_of_all keys items kept n end before = subst (λ (js : List ℕ). HasAll keys js kept) (take_all n items end) before

-- one for each of all items
pub each_of_all : (keys : List SumKey) (items : List ℕ) (kept : List KeptSum) (n : ℕ) → length items ≤ n →
    AreOneEach keys (take n items) kept → AreOneEach keys items kept
each_of_all keys items kept n end before = all_values (λ k s. k ≡ s.key) keys items kept n end before
