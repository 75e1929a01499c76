-- The values of parts, one after another, and the first fault of parts.
use Rattle.std.proofs.Common.{◌≡◌, ℕ, ◌+◌, ◌<◌, ◌∙◌, inl, inr, ⊎_elim, List, [], ◌∷◌, ◌++◌, All, length, get_or, take, drop, map}
use Rattle.std.proofs.Common.{append_assoc, sym, subst, ap, Global, Result, Err}
use Rattle.std.specs.Prelude.{IfErr}
use Rattle.std.specs.Arc.{arc_value}
use Rattle.std.specs.List.{AllZip}
use Rattle.std.specs.declared.sync.Arc.{Arc}
use Rattle.std.proofs.lemmas.List.{map-append, take-append-drop, take_more}
use Rattle.std.proofs.lemmas.List.Elements.{All-append, All-cons, All-head, All-nil, All-tail}
use Rattle.iiif_keys.specs.declared.fault.Fault.{Fault}
use Rattle.iiif_assemble.specs.Opening.{AreValuesOf, FirstPartFailed, IsFaultOf, IsPart, IsPartsFault}
use Rattle.iiif_assemble.proofs.ZipLemmas.{take_drop, zip_append}

-- one value more
pub one_value_more : {K V : Type 0} (means : K → V → Type 0) (parts : List K) (i : ℕ) (k : K) (v : Arc V Global)
    (old new : List (Arc V Global)) → i < length parts → get_or parts i k ≡ k → means k (arc_value v) →
    AreValuesOf means (take i parts) old → new ≡ old ++ v ∷ [] → AreValuesOf means (take (i + 1) parts) new
one_value_more {K} {V} means parts i k v old new inside is meant before kept =
    let f : Arc V Global → V = arc_value in
    let more : take (i + 1) parts ≡ take i parts ++ k ∷ [] = take_more parts i k inside ∙ ap (λ (x : K). take i parts ++ x ∷ []) is in
    subst (λ (vs : List V). AllZip means (take (i + 1) parts) vs) (sym (ap (map f) kept ∙ map-append f old (v ∷ [])))
    (subst (λ (ks : List K). AllZip means ks (map f old ++ map f (v ∷ []))) (sym more)
    (zip_append means (take i parts) (k ∷ []) (map f old) (map f (v ∷ [])) before (meant, tt)))

-- the values of two runs that follow one another
pub both_values : {K V : Type 0} (means : K → V → Type 0) (n : ℕ) (parts front back : List K) (a b all : List (Arc V Global)) →
    front ≡ take n parts → back ≡ drop n parts → AreValuesOf means front a → AreValuesOf means back b → all ≡ a ++ b →
    AreValuesOf means parts all
both_values {K} {V} means n parts front back a b all f g first second is =
    let h : Arc V Global → V = arc_value in
    let whole : front ++ back ≡ parts = ap (λ (ks : List K). ks ++ back) f ∙ ap (λ (ks : List K). take n parts ++ ks) g ∙
    take-append-drop n parts in
    subst (λ (vs : List V). AllZip means parts vs) (sym (ap (map h) is ∙ map-append h a b))
    (subst (λ (ks : List K). AllZip means ks (map h a ++ map h b)) whole
    (zip_append means front back (map h a) (map h b) first second))

-- parts that have values gave them
parts_gave : {K V : Type 0} (means : K → V → Type 0) (parts : List K) (values : List V) → AllZip means parts values →
    All (λ k. (v : V) × means k v) parts
parts_gave {K} {V} means [] values h = All-nil (λ k. (v : V) × means k v)
parts_gave means (k ∷ ks) [] h = absurd h
parts_gave {K} {V} means (k ∷ ks) (v ∷ vs) h = All-cons (λ q. (w : V) × means q w) k ks (v, h.0) (parts_gave means ks vs h.1)

-- the first fault is that of this part
pub failed_first : {K V : Type 0} (means : K → V → Type 0) (failed : K → Fault → Type 0) (parts : List K) (i : ℕ) (k : K)
    (values : List (Arc V Global)) (f : Fault) → i < length parts → get_or parts i k ≡ k → AreValuesOf means (take i parts) values →
    IsFaultOf failed k f → IsPartsFault means failed parts f
failed_first {K} {V} means failed parts i k values f inside is had h =
    let value : Arc V Global → V = arc_value in
    ⊎_elim (λ e. inl e) (λ (own : failed k f). inr (record {
      before = take i parts;
      part = k;
      after = drop (i + 1) parts;
      are = take_drop i parts k inside ∙ ap (λ (x : K). take i parts ++ x ∷ drop (i + 1) parts) is;
      gave = parts_gave means (take i parts) (map value values) had;
      fault_of = own;
    })) h

-- the first fault of the second of two runs, where the first has values
pub back_failed : {K V : Type 0} (means : K → V → Type 0) (failed : K → Fault → Type 0) (n : ℕ) (parts front back : List K)
    (values : List (Arc V Global)) (f : Fault) → front ≡ take n parts → back ≡ drop n parts → AreValuesOf means front values →
    IsPartsFault means failed back f → IsPartsFault means failed parts f
back_failed {K} {V} means failed n parts front back values f is rest had h =
    let value : Arc V Global → V = arc_value in
    let P : K → Type 0 = λ k. (v : V) × means k v in
    let whole : front ++ back ≡ parts = ap (λ (ks : List K). ks ++ back) is ∙ ap (λ (ks : List K). take n parts ++ ks) rest ∙
    take-append-drop n parts in
    ⊎_elim (λ e. inl e) (λ (p : FirstPartFailed means failed back f). inr (record {
      before = front ++ p.before;
      part = p.part;
      after = p.after;
      are = sym whole ∙ ap (λ (ks : List K). front ++ ks) p.are ∙ sym (append_assoc front p.before (p.part ∷ p.after));
      gave = All-append P front p.before (parts_gave means front (map value values) had) p.gave;
      fault_of = p.fault_of;
    })) h

holds_behind : {K : Type 0} (P : K → Type 0) (before : List K) (k : K) (after : List K) → All P (before ++ k ∷ after) → P k
holds_behind P [] k after h = All-head P k after h
holds_behind P (x ∷ xs) k after h = holds_behind P xs k after (All-tail P x (xs ++ k ∷ after) h)

-- where parts of a key have no values, it has none
pub fault_of_key : {K V : Type 0} (may : K → Type 0) (means : K → V → Type 0) (rank : K → ℕ) (failed : K → Fault → Type 0) (key : K)
    (parts : List K) (f : Fault) → All (IsPart may rank failed key) parts → IsPartsFault means failed parts f → IsFaultOf failed key f
fault_of_key {K} {V} may means rank failed key parts f all h =
    let P : K → Type 0 = IsPart may rank failed key in
    ⊎_elim (λ e. inl e) (λ (p : FirstPartFailed means failed parts f).
    inr ((holds_behind P p.before p.part p.after (subst (All P) p.are all)).fails f p.fault_of)) h

-- what the exit of a `?` tells
pub told : {U : Type 0} (P : Fault → Type 0) (r : Result U Fault) (f : Fault) → P f → (y : Fault) × (r ≡ Err y) × (y ≡ f) → IfErr r P
told {U} P r f h is = subst (λ (x : Result U Fault). IfErr x P) (sym is.1) (subst P (sym is.2) h)
