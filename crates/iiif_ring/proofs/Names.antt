-- The order of names by bytes, and names at places.
use Rattle.std.proofs.Common.{◌≡◌, ℕ, ◌<◌, List, length, get_or, Bool, true, false, refl, sym, ap, ◌∙◌, []}
use Rattle.std.proofs.lemmas.List.{get_or-map, length-map}
use Rattle.std.proofs.lemmas.Cmp.{upto, tied_itself, nat_list_cmp_total}
use Rattle.std.proofs.lemmas.Map.Lookups.{exact_bytes}
use Rattle.std.specs.declared.cmp.Ordering.{Ordering}
use Rattle.std.specs.declared.cmp.Ordering.TheVariants.{Less, Equal, Greater}
use Rattle.std.specs.Ordering.{is_gt, is_le, nat_cmp, ordering_reverse}
use Rattle.std.specs.Cmp.Lexicographic.{slice_cmp}
use Rattle.std.specs.declared.string.String.{String}
use Rattle.std.specs.declared.alloc.Global.{Global}
use Rattle.std.specs.String.{string_bytes}
use Rattle.iiif_ring.specs.Code.{name_at}
use Rattle.iiif_ring.specs.Names.{names_of}
use Rattle.iiif_ring.specs.Owner.{IsUpTo}

pub IsUpTo-refl : (a : List ℕ) → IsUpTo a a
IsUpTo-refl a = ap is_gt (tied_itself nat_list_cmp_total a)

pub IsUpTo-trans : (a b c : List ℕ) → IsUpTo a b → IsUpTo b c → IsUpTo a c
IsUpTo-trans a b c p q = upto nat_list_cmp_total a b c p q

tied : (o o' : Ordering) → o ≡ ordering_reverse o' → is_gt o ≡ false → is_gt o' ≡ false → o ≡ Equal
tied Less Less e p q = cc
tied Less Equal e p q = cc
tied Less Greater e p q = cc
tied Equal o' e p q = cc
tied Greater o' e p q = cc

pub IsUpTo-antisym : (a b : List ℕ) → IsUpTo a b → IsUpTo b a → a ≡ b
IsUpTo-antisym a b p q = exact_bytes a b (tied (slice_cmp nat_cmp a b) (slice_cmp nat_cmp b a) (nat_list_cmp_total.antisymm a b) p q)

untied : (o o' : Ordering) → o ≡ ordering_reverse o' → is_gt o ≡ true → is_gt o' ≡ false
untied o Less e p = cc
untied o Equal e p = cc
untied Less Greater e p = cc
untied Equal Greater e p = cc
untied Greater Greater e p = cc

pub IsUpTo-other : (a b : List ℕ) → is_gt (slice_cmp nat_cmp a b) ≡ true → IsUpTo b a
IsUpTo-other a b p = untied (slice_cmp nat_cmp a b) (slice_cmp nat_cmp b a) (nat_list_cmp_total.antisymm a b) p

-- the name at a place is the text that stands there
pub name_at-names_of : (names : List (String Global)) (place : ℕ) (name : String Global) → name ≡ get_or names place name →
    place < length names
    → name_at (names_of names) place ≡ string_bytes name
name_at-names_of names place name e h = get_or-map (λ text. string_bytes text) names place name [] h ∙
    ap (λ text. string_bytes text) (sym e)

pub length-names_of : (names : List (String Global)) → length (names_of names) ≡ length names
length-names_of names = length-map names (λ (text : String Global). string_bytes text)

of_le : (o : Ordering) → is_le o ≡ true → is_gt o ≡ false
of_le Less e = refl
of_le Equal e = refl
of_le Greater e = cc

of_not_le : (o : Ordering) → is_le o ≡ false → is_gt o ≡ true
of_not_le Less e = cc
of_not_le Equal e = cc
of_not_le Greater e = refl

-- what `<=` says of two names
pub IsUpTo-le : (a b : List ℕ) (r : Bool) → r ≡ is_le (slice_cmp nat_cmp a b) → r ≡ true → IsUpTo a b
IsUpTo-le a b r e h = of_le (slice_cmp nat_cmp a b) (sym e ∙ h)

pub IsUpTo-not_le : (a b : List ℕ) (r : Bool) → r ≡ is_le (slice_cmp nat_cmp a b) → r ≡ false → IsUpTo b a
IsUpTo-not_le a b r e h = IsUpTo-other a b (of_not_le (slice_cmp nat_cmp a b) (sym e ∙ h))
