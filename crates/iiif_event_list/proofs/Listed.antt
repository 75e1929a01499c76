-- Numbers and names of words, one more.
use Rattle.std.proofs.Common.{◌≡◌, ◌+◌, ◌++◌, ℕ, zero, suc, List, [], ◌∷◌, take, Some, Bor, refl, ap, sym, subst, slice_get}
use Rattle.std.proofs.Common.{string_bytes, arith}
use Rattle.std.specs.List.{AllZip}
use Rattle.std.specs.declared.string.String.{String}
use Rattle.std.specs.declared.alloc.Global.{Global}
use Rattle.std.proofs.lemmas.Option.{none-some, same_Some}
use Rattle.iiif_ring.specs.Names.{names_of}
use Rattle.iiif_event_list.specs.Spellings.{IsNumber, LineWords, Names}
use Rattle.iiif_event_list.specs.Settings.{AreNames, AreNumbers}

zip_more : {X : Type 0} (R : Bor (List ℕ) → X → Type 0) (ws : LineWords) (i : ℕ) (w : Bor (List ℕ)) (xs : List X) (x : X) →
    slice_get ws i ≡ Some w → AllZip R (take i ws) xs → R w x → AllZip R (take (suc i) ws) (xs ++ x ∷ [])
zip_more R [] i w xs x at are is = absurd (none-some w at)
zip_more R (v ∷ ws) zero w [] x at are is = (subst (λ (u : Bor (List ℕ)). R u x) (sym (same_Some v w at)) is, tt)
zip_more R (v ∷ ws) zero w (y ∷ ys) x at are is = absurd are
zip_more R (v ∷ ws) (suc i) w [] x at are is = absurd are
zip_more R (v ∷ ws) (suc i) w (y ∷ ys) x at are is = (are.0, zip_more R ws i w ys x at are.1 is)

pub one_number_more : (ws : LineWords) (i : ℕ) (w : Bor (List ℕ)) (ns more : List ℕ) (n : ℕ) → slice_get ws i ≡ Some w →
    AreNumbers (take i ws) ns → IsNumber w.now n → more ≡ ns ++ n ∷ [] → AreNumbers (take (i + 1) ws) more
one_number_more ws i w ns more n at are is added =
    let next : suc i ≡ i + 1 = omega arith in
    subst (λ (k : ℕ). AreNumbers (take k ws) more) next (subst (AreNumbers (take (suc i) ws)) (sym added)
    (zip_more (λ (v : Bor (List ℕ)) (m : ℕ). IsNumber v.now m) ws i w ns n at are is))

names_added : (ts : List (String Global)) (t : String Global) → names_of (ts ++ t ∷ []) ≡ names_of ts ++ string_bytes t ∷ []
names_added [] t = refl
names_added (u ∷ us) t = ap (λ (ns : List (List ℕ)). string_bytes u ∷ ns) (names_added us t)

pub one_name_more : (ws : LineWords) (i : ℕ) (w : Bor (List ℕ)) (ts more : List (String Global)) (t : String Global) →
    slice_get ws i ≡ Some w → AreNames (take i ws) (names_of ts) → Names w.now (string_bytes t) → more ≡ ts ++ t ∷ [] →
    AreNames (take (i + 1) ws) (names_of more)
one_name_more ws i w ts more t at are is added =
    let next : suc i ≡ i + 1 = omega arith in
    let whole : AreNames (take (suc i) ws) (names_of ts ++ string_bytes t ∷ []) =
    zip_more (λ (v : Bor (List ℕ)) (name : List ℕ). Names v.now name) ws i w (names_of ts) (string_bytes t) at are is in
    subst (λ (k : ℕ). AreNames (take k ws) (names_of more)) next
    (subst (λ (us : List (String Global)). AreNames (take (suc i) ws) (names_of us)) (sym added)
    (subst (AreNames (take (suc i) ws)) (sym (names_added ts t)) whole))
