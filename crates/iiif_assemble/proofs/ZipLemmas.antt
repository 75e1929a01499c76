-- Values of items, one after another.
use Rattle.std.proofs.Common.{◌≡◌, ℕ, zero, suc, ◌+◌, ◌<◌, ◌≤◌, inl, inr, List, [], ◌∷◌, ◌++◌, All, length, get_or, take, drop, map}
use Rattle.std.proofs.Common.{append_assoc, refl, sym, subst, ap, ◌∙◌, ⊎_elim, arith, Bool}
use Rattle.std.specs.List.{AllZip}
use Rattle.std.proofs.Math.Seq.{drop-cons}
use Rattle.std.proofs.lemmas.List.{take_more, take_all, map-append, take-append-drop, get_or_default}
use Rattle.std.proofs.lemmas.List.Elements.{All-nil, All-cons, All-append, All-head, All-tail, All-weaker}
use Rattle.iiif_pixel.specs.declared.geometry.Rect.{Rect}
use Rattle.iiif_planner.specs.Bands.{places_from}
use Rattle.iiif_planner.proofs.ItemLaws.{within_list}
use Rattle.iiif_assemble.specs.Code.{ListsMet}
use Rattle.iiif_keys.specs.declared.fault.Fault.{Fault}
use Rattle.iiif_assemble.specs.Gathering.{HasItem, AreValues, FailedFirst, IsItemFault}

pub zip_append : {A B : Type 0} (R : A → B → Type 0) (xs us : List A) (ys vs : List B) → AllZip R xs ys → AllZip R us vs →
    AllZip R (xs ++ us) (ys ++ vs)
zip_append R [] us [] vs h k = k
zip_append R [] us (y ∷ ys) vs h k = absurd h
zip_append R (x ∷ xs) us [] vs h k = absurd h
zip_append R (x ∷ xs) us (y ∷ ys) vs h k = (h.0, zip_append R xs us ys vs h.1 k)

-- items that have values gave them
pub values_gave : {K V : Type 0} (means : K → V → Type 0) (keys : List K) (items : List ℕ) (values : List V) →
    AreValues means keys items values →
    All (HasItem keys (λ k. (v : V) × means k v)) items
values_gave {K} {V} means keys [] values h = All-nil (HasItem keys (λ k. (v : V) × means k v))
values_gave means keys (i ∷ is) [] h = absurd h
values_gave {K} {V} means keys (i ∷ is) (v ∷ vs) h =
    All-cons (HasItem keys (λ k. (w : V) × means k w)) i is (h.0.0, h.0.1, h.0.2, (v, h.0.3)) (values_gave means keys is vs h.1)

-- a list at one of its places
pub take_drop : {X : Type 0} (i : ℕ) (xs : List X) (x : X) → i < length xs → xs ≡ take i xs ++ get_or xs i x ∷ drop (i + 1) xs
take_drop {X} i xs x h =
    let next : suc i ≡ i + 1 = omega arith in
    sym (take-append-drop i xs) ∙ ap (λ (ys : List X). take i xs ++ ys) (drop-cons xs i x h) ∙
    ap (λ n. take i xs ++ get_or xs i x ∷ drop n xs) next

-- one value more
pub one_more : {K V : Type 0} (means : K → V → Type 0) (keys : List K) (items : List ℕ) (values : List V) (i : ℕ) (k : K) (v : V) →
    i < length items →
    AreValues means keys (take i items) values → get_or items i 0 < length keys → get_or keys (get_or items i 0) k ≡ k → means k v →
    AreValues means keys (take (i + 1) items) (values ++ v ∷ [])
one_more {K} {V} means keys items values i k v within before inside is meant =
    let R : ℕ → V → Type 0 = λ j w. HasItem keys (λ q. means q w) j in
    subst (λ (js : List ℕ). AllZip R js (values ++ v ∷ [])) (sym (take_more items i 0 within))
    (zip_append R (take i items) (get_or items i 0 ∷ []) values (v ∷ []) before ((k, inside, is, meant), tt))

-- the first fault
pub failed_here : {K V : Type 0} (means : K → V → Type 0) (failed : K → Fault → Type 0) (keys : List K) (items : List ℕ) (values : List V)
    (i : ℕ) (k : K) (fault : Fault) → i < length items →
    AreValues means keys (take i items) values → get_or items i 0 < length keys → get_or keys (get_or items i 0) k ≡ k → failed k fault →
    FailedFirst means failed keys items fault
failed_here means failed keys items values i k fault within before inside is f = record {
  before = take i items;
  item = get_or items i 0;
  after = drop (i + 1) items;
  are = take_drop i items 0 within;
  gave = values_gave means keys (take i items) values before;
  fault_of = (k, inside, is, f);
}

-- and that of the other is, where the first run has values
pub fault_right : {K V : Type 0} (means : K → V → Type 0) (failed : K → Fault → Type 0) (keys : List K) (left right : List ℕ)
    (values : List V) (fault : Fault) →
    AreValues means keys left values → IsItemFault means failed keys right fault → IsItemFault means failed keys (left ++ right) fault
fault_right {K} {V} means failed keys left right values fault had h =
    ⊎_elim (λ e. inl e) (λ (f : FailedFirst means failed keys right fault). inr (record {
      before = left ++ f.before;
      item = f.item;
      after = f.after;
      are = ap (λ xs. left ++ xs) f.are ∙ sym (append_assoc left f.before (f.item ∷ f.after));
      gave = All-append (HasItem keys (λ k. (v : V) × means k v)) left f.before (values_gave means keys left values had) f.gave;
      fault_of = f.fault_of;
    })) h

-- the values of both runs
pub both_runs : {A K V : Type 0} (value : A → V) (means : K → V → Type 0) (keys : List K) (left right : List ℕ) (first rest all : List A) →
    AreValues means keys left (map value first) →
    AreValues means keys right (map value rest) → all ≡ first ++ rest → AreValues means keys (left ++ right) (map value all)
both_runs {A} {K} {V} value means keys left right first rest all a b e =
    let R : ℕ → V → Type 0 = λ j w. HasItem keys (λ q. means q w) j in
    subst (λ (vs : List V). AllZip R (left ++ right) vs) (sym (ap (map value) e ∙ map-append value first rest))
    (zip_append R left right (map value first) (map value rest) a b)

-- one value more that is kept
pub one_kept : {A K V : Type 0} (value : A → V) (means : K → V → Type 0) (keys : List K) (items : List ℕ) (old new : List A) (i : ℕ) (k : K)
    (a : A) → i < length items →
    AreValues means keys (take i items) (map value old) → get_or items i 0 < length keys → get_or keys (get_or items i 0) k ≡ k →
    means k (value a) → new ≡ old ++ a ∷ [] →
    AreValues means keys (take (i + 1) items) (map value new)
one_kept {A} {K} {V} value means keys items old new i k a within before inside is meant kept =
    let R : ℕ → V → Type 0 = λ j w. HasItem keys (λ q. means q w) j in
    subst (λ (vs : List V). AllZip R (take (i + 1) items) vs) (sym (ap (map value) kept ∙ map-append value old (a ∷ [])))
    (one_more means keys items (map value old) i k (value a) within before inside is meant)

-- the values of all items
pub all_values : {K V : Type 0} (means : K → V → Type 0) (keys : List K) (items : List ℕ) (values : List V) (i : ℕ) → length items ≤ i →
    AreValues means keys (take i items) values →
    AreValues means keys items values
all_values {K} {V} means keys items values i end before =
    let R : ℕ → V → Type 0 = λ j w. HasItem keys (λ q. means q w) j in
    subst (λ (js : List ℕ). AllZip R js values) (take_all i items end) before

-- the values of two runs that follow one another
pub runs_joined : {A K V : Type 0} (value : A → V) (means : K → V → Type 0) (keys : List K) (items left right : List ℕ) (run : ℕ)
    (first rest all : List A) → left ≡ take run items → right ≡ drop run items →
    AreValues means keys left (map value first) → AreValues means keys right (map value rest) → all ≡ first ++ rest →
    AreValues means keys items (map value all)
runs_joined value means keys items left right run first rest all l r a b e =
    let whole : left ++ right ≡ items = ap (λ xs. xs ++ right) l ∙ ap (λ xs. take run items ++ xs) r ∙ take-append-drop run items in
    subst (λ (js : List ℕ). AreValues means keys js (map value all)) whole (both_runs value means keys left right first rest all a b e)

-- the fault of the second run, where the first has its values
pub second_failed : {K V : Type 0} (means : K → V → Type 0) (failed : K → Fault → Type 0) (keys : List K) (items left right : List ℕ)
    (run : ℕ) (values : List V) (fault : Fault) → left ≡ take run items →
    right ≡ drop run items → AreValues means keys left values → IsItemFault means failed keys right fault →
    IsItemFault means failed keys items fault
second_failed means failed keys items left right run values fault l r had h =
    let whole : left ++ right ≡ items = ap (λ xs. xs ++ right) l ∙ ap (λ xs. take run items ++ xs) r ∙ take-append-drop run items in
    subst (λ (js : List ℕ). IsItemFault means failed keys js fault) whole (fault_right means failed keys left right values fault had h)

-- what holds of each value that a key may have holds of the values of items
pub each_value : {K V : Type 0} (P : V → Type 0) (means : K → V → Type 0) (keys : List K) (items : List ℕ) (values : List V) →
    AreValues means keys items values →
    All (λ (k : K). (v : V) → means k v → P v) keys → All P values
each_value P means keys [] [] h each = All-nil P
each_value P means keys [] (v ∷ vs) h each = absurd h
each_value P means keys (i ∷ is) [] h each = absurd h
each_value {K} {V} P means keys (i ∷ is) (v ∷ vs) h each =
    let Q : K → Type 0 = λ q. (w : V) → means q w → P w in
    let of_key : Q h.0.0 = subst Q h.0.2 (each i h.0.0 h.0.1) in
    All-cons P v vs (of_key v h.0.3) (each_value P means keys is vs h.1 each)

pub all_mapped : {A V : Type 0} (f : A → V) (P : V → Type 0) (xs : List A) → All P (map f xs) → All (λ x. P (f x)) xs
all_mapped f P [] h = All-nil (λ x. P (f x))
all_mapped f P (x ∷ xs) h = All-cons (λ y. P (f y)) x xs (All-head P (f x) (map f xs) h) (all_mapped f P xs (All-tail P (f x) (map f xs) h))

-- the places of elements that pass a test are places of the list
pub passed_within : {K : Type 0} (test : K → Bool) (keys : List K) (items : List ℕ) → items ≡ places_from 0 test keys →
    All (λ i. i < length keys) items
passed_within {K} test keys items are =
    subst (λ (js : List ℕ). All (λ i. i < length keys) js) (sym are)
    (All-weaker (λ i. i < 0 + length keys) (λ i. i < length keys) (λ i h. omega arith) (places_from 0 test keys) (within_list 0 test keys))

-- the places of a band's items are places of the plan
pub lists_within : {K : Type 0} (places : K → Rect) (rect : Rect) (keys : List K) (items : List ℕ) → ListsMet places rect keys items →
    All (λ i. i < length keys) items
lists_within places rect keys items lists = passed_within lists.0 keys items lists.2

-- as many values as items
pub values_len : {A K V : Type 0} (f : A → V) (means : K → V → Type 0) (keys : List K) (items : List ℕ) (values : List A) →
    AreValues means keys items (map f values) → length items ≡ length values
values_len f means keys [] [] h = refl
values_len f means keys [] (x ∷ xs) h = absurd h
values_len f means keys (i ∷ is) [] h = absurd h
values_len f means keys (i ∷ is) (x ∷ xs) h = let e = values_len f means keys is xs h.1 in omega arith

-- what holds of an item and its value
pub value_at : {A K V : Type 0} (f : A → V) (means : K → V → Type 0) (keys : List K) (items : List ℕ) (values : List A) (n : ℕ) (k : K)
    (a : A) → AreValues means keys items (map f values) →
    n < length items → get_or keys (get_or items n 0) k ≡ k → get_or values n a ≡ a → means k (f a)
value_at f means keys [] values n k a h within key_is is = absurd (omega arith)
value_at f means keys (i ∷ js) [] n k a h within key_is is = absurd h
value_at {A} {K} f means keys (i ∷ js) (x ∷ xs) zero k a h within key_is is =
    let same : h.0.0 ≡ k = sym h.0.2 ∙ get_or_default keys i h.0.0 k h.0.1 ∙ key_is in
    subst (λ (q : K). means q (f a)) same (subst (λ (y : A). means h.0.0 (f y)) is h.0.3)
value_at f means keys (i ∷ js) (x ∷ xs) (suc n) k a h within key_is e = value_at f means keys js xs n k a h.1 (omega arith) key_is e

-- values of which less is known
pub values_weaker : {K V : Type 0} (means other : K → V → Type 0) (keys : List K) (items : List ℕ) (values : List V) →
    AreValues means keys items values →
    All (λ (k : K). (v : V) → means k v → other k v) keys → AreValues other keys items values
values_weaker means other keys [] [] h each = tt
values_weaker means other keys [] (v ∷ vs) h each = absurd h
values_weaker means other keys (i ∷ is) [] h each = absurd h
values_weaker {K} {V} means other keys (i ∷ is) (v ∷ vs) h each =
    let Q : K → Type 0 = λ q. (w : V) → means q w → other q w in
    let of_key : Q h.0.0 = subst Q h.0.2 (each i h.0.0 h.0.1) in
    ((h.0.0, h.0.1, h.0.2, of_key v h.0.3), values_weaker means other keys is vs h.1 each)
