-- Files in a map from names to digests, and lines that name them one after another.
use Rattle.std.proofs.Common.{◌≡◌, ℕ, ◌+◌, ◌-◌, ◌<◌, Bool, true, false, List, [], ◌∷◌, ◌++◌, map, length, take, get_or, refl}
use Rattle.std.proofs.Common.{sym, ap, subst, ◌∙◌, arith, Option, Some, None, is_some, cond, ◌||◌, bytes_eq, true≢false, below_more}
use Rattle.std.proofs.lemmas.List.{get_or_default, map-append, take_all, take_more}
use Rattle.std.specs.Map.{lookup}
use denote.Ref.{Bor}
use Rattle.iiif_fixity.specs.Manifests.{Entry, entry, entry_of, shown, has_name, digest_named}
use Rattle.iiif_fixity.specs.Manifests.{refusal_at, refusal_of_line, AreTaken, EndsAtLine, IsRefusal}
use Rattle.iiif_fixity.specs.declared.fault.EntryFault.{EntryFault}

some_or : {A : Type 0} (b : Bool) (x : A) (rest : Option A) (more : Bool) → is_some rest ≡ more →
    is_some (cond b (Some x) rest) ≡ (b || more)
some_or true x rest more e = refl
some_or false x rest more e = e

-- a name that is looked up is there where there is an entry of that name
pub has_lookup : (es : List (Bor (List ℕ) × List ℕ)) (name : List ℕ) →
    is_some (lookup (λ k. bytes_eq name k.now) es) ≡ has_name (shown es) name
has_lookup [] name = refl
has_lookup (e ∷ es) name = some_or (bytes_eq name e.0.now) e.1 (lookup (λ k. bytes_eq name k.now) es) (has_name (shown es) name)
    (has_lookup es name)

-- what is looked up of a name is the digest that is listed of it
pub digest_lookup : (es : List (Bor (List ℕ) × List ℕ)) (name : List ℕ) →
    lookup (λ k. bytes_eq name k.now) es ≡ digest_named (shown es) name
unfolding digest_named
digest_lookup [] name = refl
digest_lookup (e ∷ es) name = ap (λ rest. cond (bytes_eq name e.0.now) (Some e.1) rest) (digest_lookup es name)

-- where there is no entry of a name, it isn't found
pub not_there : {A : Type 0} (r : Option A) (b : Bool) → is_some r ≡ b → b ≡ false → r ≡ None
not_there None b e f = refl
not_there (Some x) true e f = absurd (true≢false f)
not_there (Some x) false e f = absurd (true≢false e)

-- the entries with one more
pub shown_more : (es : List (Bor (List ℕ) × List ℕ)) (e : Bor (List ℕ) × List ℕ) → shown (es ++ e ∷ []) ≡ shown es ++ entry e ∷ []
shown_more [] e = refl
shown_more (x ∷ es) e = ap (λ rest. entry x ∷ rest) (shown_more es e)

pub one_more : {is js : List Entry} {i j : Entry} → is ≡ js → i ≡ j → is ++ i ∷ [] ≡ js ++ j ∷ []
one_more p q = cc

-- ---- Lines, one after another

-- the first n lines are taken
pub record Front (ls : List (List ℕ)) (n : ℕ) (now : List Entry) : Type 0 where
  pub each : AreTaken ls n
  pub taken : now ≡ map entry_of (take n ls)

above_more : (ls : List (List ℕ)) (n : ℕ) (line : List ℕ) → n < length ls → line ≡ get_or ls n line →
    map entry_of (take n ls) ++ entry_of line ∷ [] ≡ map entry_of (take (n + 1) ls)
above_more ls n line lt is = sym (map-append entry_of (take n ls) (line ∷ [])) ∙
    ap (map entry_of) (ap (λ x. take n ls ++ x ∷ []) is ∙ sym (take_more ls n line lt))

at_place : (ls : List (List ℕ)) (n : ℕ) (line : List ℕ) → n < length ls → line ≡ get_or ls n line → get_or ls n [] ≡ line
at_place ls n line lt is = get_or_default ls n [] line lt ∙ sym is

pub front_more : (before after : List Entry) (ls : List (List ℕ)) (n : ℕ) (line : List ℕ) → Front ls n before →
    n < length ls → line ≡ get_or ls n line → after ≡ before ++ entry_of line ∷ [] → refusal_of_line before line ≡ None →
    Front ls (n + 1) after
front_more before after ls n line front lt is more none =
    let here : refusal_at ls n ≡ None = ap (λ l. refusal_of_line (map entry_of (take n ls)) l) (at_place ls n line lt is) ∙
    (ap (λ b. refusal_of_line b line) (sym front.taken) ∙ none) in
    record {
      each = below_more _ _ front.each here;
      taken = more ∙ (ap (λ b. b ++ entry_of line ∷ []) front.taken ∙ above_more ls n line lt is);
    }

-- and the next ends the text
pub front_ends : (before : List Entry) (ls : List (List ℕ)) (n m : ℕ) (line : List ℕ) (fault : EntryFault) →
    Front ls n before → n < length ls → line ≡ get_or ls n line → IsRefusal (refusal_of_line before line) fault → m ≡ n + 1 →
    EndsAtLine ls m fault
front_ends before ls n m line fault front lt is refused next =
    let back : n ≡ m - 1 = omega arith in
    let refusal : refusal_of_line before line ≡ refusal_at ls n =
    ap (λ b. refusal_of_line b line) front.taken ∙
    sym (ap (λ l. refusal_of_line (map entry_of (take n ls)) l) (at_place ls n line lt is)) in
    record {
      some = omega arith;
      within = omega arith;
      above = subst (AreTaken ls) back front.each;
      refused = subst (λ k. IsRefusal (refusal_at ls k) fault) back (subst (λ r. IsRefusal r fault) refusal refused);
    }

-- all lines are taken
pub front_each : (now : List Entry) (ls : List (List ℕ)) (n : ℕ) → Front ls n now → n ≡ length ls → AreTaken ls (length ls)
front_each now ls n front all = subst (AreTaken ls) all front.each

pub front_taken : (now : List Entry) (ls : List (List ℕ)) (n : ℕ) → Front ls n now → n ≡ length ls → now ≡ map entry_of ls
front_taken now ls n front all = front.taken ∙ ap (map entry_of) (ap (λ k. take k ls) all ∙ take_all (length ls) ls (omega arith))
