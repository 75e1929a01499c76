-- Images in a map from names to files.
use Rattle.std.proofs.Common.{◌≡◌, ℕ, ◌+◌, ◌-◌, ◌<◌, Bool, true, false, List, [], ◌∷◌, ◌++◌, map, not, filter, length, take, get_or, refl}
use Rattle.std.proofs.Common.{sym, ap, subst, ◌∙◌, arith, Option, Some, None, is_some, cond, ◌||◌, bytes_eq, true≢false, below_more}
use Rattle.std.proofs.lemmas.List.{append_assoc, get_or_default, map-append, take_all, take_more}
use Rattle.std.proofs.lemmas.List.Elements.{filter-append}
use Rattle.std.specs.Map.{lookup}
use denote.Ref.{Bor}
use Rattle.iiif_image_list.specs.Lists.{Image, image, image_of, image_with, images_above, images_of, shown, has_name, is_silent}
use Rattle.iiif_image_list.specs.Lists.{refusal_at, refusal_of_line, AreTaken, EndsAtLine, IsRefusal}
use Rattle.iiif_image_list.specs.declared.fault.Fault.{Fault}

some_or : {A : Type 0} (b : Bool) (x : A) (rest : Option A) (more : Bool) → is_some rest ≡ more →
    is_some (cond b (Some x) rest) ≡ (b || more)
some_or true x rest more e = refl
some_or false x rest more e = e

-- a name that is looked up is there where there is an image of that name
pub named_there : (es : List (Bor (List ℕ) × Bor (List ℕ))) (name : List ℕ) →
    is_some (lookup (λ k. bytes_eq name k.now) es) ≡ has_name (shown es) name
named_there [] name = refl
named_there (e ∷ es) name = some_or (bytes_eq name e.0.now) e.1 (lookup (λ k. bytes_eq name k.now) es) (has_name (shown es) name)
    (named_there es name)

-- where there is no image of a name, it isn't found
pub not_there : {A : Type 0} (r : Option A) (b : Bool) → is_some r ≡ b → b ≡ false → r ≡ None
not_there None b e f = refl
not_there (Some x) true e f = absurd (true≢false f)
not_there (Some x) false e f = absurd (true≢false e)

-- the images with one more
pub shown_more : (es : List (Bor (List ℕ) × Bor (List ℕ))) (e : Bor (List ℕ) × Bor (List ℕ)) →
    shown (es ++ e ∷ []) ≡ shown es ++ image e ∷ []
shown_more [] e = refl
shown_more (x ∷ es) e = ap (λ rest. image x ∷ rest) (shown_more es e)

pub same_image : {m n f g : List ℕ} → m ≡ n → f ≡ g → image_with m f ≡ image_with n g
same_image p q = cc

pub one_more : {is js : List Image} {i j : Image} → is ≡ js → i ≡ j → is ++ i ∷ [] ≡ js ++ j ∷ []
one_more p q = cc

-- ---- Lines, one after another

-- the first n lines are taken
pub record Front (images : List Image) (ls : List (List ℕ)) (n : ℕ) (now : List Image) : Type 0 where
  pub each : AreTaken images ls n
  pub taken : now ≡ images_above images ls n

abbrev names_one : List ℕ → Bool
names_one line = not (is_silent line)

-- the images of lines and of one more
images_more : (ls : List (List ℕ)) (line : List ℕ) → images_of (ls ++ line ∷ []) ≡ images_of ls ++ images_of (line ∷ [])
images_more ls line = ap (map image_of) (filter-append names_one ls (line ∷ [])) ∙
    map-append image_of (filter names_one ls) (filter names_one (line ∷ []))

above_more : (images : List Image) (ls : List (List ℕ)) (n : ℕ) (line : List ℕ) → n < length ls → line ≡ get_or ls n line
    → images_above images ls n ++ images_of (line ∷ []) ≡ images_above images ls (n + 1)
above_more images ls n line lt is =
    append_assoc images (images_of (take n ls)) (images_of (line ∷ []))
    ∙ ap (λ more. images ++ more) (sym (images_more (take n ls) line) ∙
    ap images_of (ap (λ x. take n ls ++ x ∷ []) is ∙ sym (take_more ls n line lt)))

at_place : (ls : List (List ℕ)) (n : ℕ) (line : List ℕ) → n < length ls → line ≡ get_or ls n line → get_or ls n [] ≡ line
at_place ls n line lt is = get_or_default ls n [] line lt ∙ sym is

pub front_more : (images before after : List Image) (ls : List (List ℕ)) (n : ℕ) (line : List ℕ) → Front images ls n before →
    n < length ls → line ≡ get_or ls n line
    → after ≡ before ++ images_of (line ∷ []) → refusal_of_line before line ≡ None → Front images ls (n + 1) after
front_more images before after ls n line front lt is more none =
    let here : refusal_at images ls n ≡ None = ap (λ l. refusal_of_line (images_above images ls n) l) (at_place ls n line lt is) ∙
    (ap (λ b. refusal_of_line b line) (sym front.taken) ∙ none) in
    record {
      each = below_more _ _ front.each here;
      taken = more ∙ (ap (λ b. b ++ images_of (line ∷ [])) front.taken ∙ above_more images ls n line lt is);
    }

-- and the next ends the list
pub front_ends : (images before after : List Image) (ls : List (List ℕ)) (n m : ℕ) (line : List ℕ) (fault : Fault) →
    Front images ls n before → n < length ls → line ≡ get_or ls n line
    → after ≡ before → IsRefusal (refusal_of_line before line) fault → m ≡ n + 1 → EndsAtLine images ls m fault after
front_ends images before after ls n m line fault front lt is same refused next =
    let back : n ≡ m - 1 = omega arith in
    let refusal : refusal_of_line before line ≡ refusal_at images ls n =
    ap (λ b. refusal_of_line b line) front.taken ∙
    sym (ap (λ l. refusal_of_line (images_above images ls n) l) (at_place ls n line lt is)) in
    record {
      some = omega arith;
      within = omega arith;
      above = subst (AreTaken images ls) back front.each;
      refused = subst (λ k. IsRefusal (refusal_at images ls k) fault) back (subst (λ r. IsRefusal r fault) refusal refused);
      taken = same ∙ (front.taken ∙ ap (images_above images ls) back);
    }

-- all lines are taken
pub front_each : (images now : List Image) (ls : List (List ℕ)) (n : ℕ) → Front images ls n now → n ≡ length ls →
    AreTaken images ls (length ls)
front_each images now ls n front all = subst (AreTaken images ls) all front.each

pub front_taken : (images now : List Image) (ls : List (List ℕ)) (n : ℕ) → Front images ls n now → n ≡ length ls →
    now ≡ images ++ images_of ls
front_taken images now ls n front all = front.taken ∙
    ap (λ l. images ++ images_of l) (ap (λ k. take k ls) all ∙ take_all (length ls) ls (omega arith))
