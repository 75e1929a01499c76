-- Sizes: reading is sound and complete.
use Rattle.std.proofs.Common.{◌≡◌, ◌≢◌, ℕ, Bool, true, false, List, [], ◌∷◌, ◌++◌, drop, refl, sym, ap, ◌∙◌, subst, Some, None, Option}
use Rattle.std.proofs.Common.{⊎_elim, eqb, append_assoc, codes}
use Rattle.std.specs.Prelude.{bytes_eq, nat_eq, option_map}
use Rattle.std.specs.Char.{is_ascii_digit}
use Rattle.std.specs.List.{starts_with}
use Rattle.iiif_request.specs.declared.request.Form.{Form}
use Rattle.iiif_request.specs.declared.request.Form.TheVariants.{Max, Width, Height, Percent, Both, Within}
use Rattle.iiif_request.specs.declared.request.Size.{Size}
use Rattle.iiif_request.specs.Code.{whole_of, decimal_of, cut_of, two_of, sides_of, bounds_of, pair_of, form_of, size_of}
use Rattle.iiif_request.specs.Spells.{IsWhole, SpellsForm, SpellsSize, mark}
use Rattle.iiif_request.specs.Targets.{Lacks}
use Rattle.iiif_request.proofs.OptionLemmas.{cond_some_cases, option_map_some}
use Rattle.iiif_request.proofs.NumberLemmas.{IsDigits_lacks, whole_of_sound, whole_of_complete, decimal_of_sound, decimal_of_complete}
use Rattle.iiif_request.proofs.NumberLemmas.{Lacks_one}
use Rattle.iiif_request.proofs.CutLemmas.{cut_of_at, cut_of_some}
use Rattle.iiif_request.proofs.RegionLemmas.{bytes_eq_true, starts_with_true, eqb_digit_other, eqb_other_digit, IsDigits_head}
use Rattle.std.proofs.lemmas.List.Elements.{All-append, All-nil}
use Rattle.std.proofs.lemmas.Option.{same_Some, none-some}

two_of_some : (form : ℕ → ℕ → Form) (w h : Option ℕ) (f : Form) → two_of form w h ≡ Some f → (a b : ℕ) × (w ≡ Some a) × (h ≡ Some b) ×
    (form a b ≡ f)
two_of_some form None h f e = absurd (none-some f e)
two_of_some form (Some a) None f e = absurd (none-some f e)
two_of_some form (Some a) (Some b) f e = (a, b, refl, refl, same_Some (form a b) f e)

within_sound : (text w h : List ℕ) (f : Form) → text ≡ w ++ 44 ∷ h → w ≡ codes "!" ++ drop 1 w →
    two_of Within (whole_of (drop 1 w)) (whole_of h) ≡ Some f → SpellsForm text f
within_sound text w h f cut front e =
    let n = two_of_some Within (whole_of (drop 1 w)) (whole_of h) f e in
    let whole : text ≡ codes "!" ++ drop 1 w ++ codes "," ++ h =
    cut ∙ ap (λ (x : List ℕ). x ++ 44 ∷ h) front ∙ sym (append_assoc (codes "!" ++ drop 1 w) (codes ",") h) in
    subst (SpellsForm text) n.4 (drop 1 w, h, whole_of_sound (drop 1 w) n.0 n.2, whole_of_sound h n.1 n.3, whole)

sides_of_sound : (text w h : List ℕ) (f : Form) → text ≡ w ++ 44 ∷ h → sides_of w h ≡ Some f → SpellsForm text f
sides_of_sound text w h f cut e = ⊎_elim
    (λ width.
    let n = option_map_some Width (whole_of w) f width.1 in
    subst (SpellsForm text) n.2 (w, whole_of_sound w n.0 n.1, cut ∙ ap (λ (x : List ℕ). w ++ 44 ∷ x) (bytes_eq_true h [] width.0)))
    (λ other. ⊎_elim
    (λ height.
    let n = option_map_some Height (whole_of h) f height.1 in
    subst (SpellsForm text) n.2 (h, whole_of_sound h n.0 n.1, cut ∙ ap (λ (x : List ℕ). x ++ 44 ∷ h) (bytes_eq_true w [] height.0)))
    (λ both.
    let n = two_of_some Both (whole_of w) (whole_of h) f both.1 in
    subst (SpellsForm text) n.4 (w, h, whole_of_sound w n.0 n.2, whole_of_sound h n.1 n.3, cut ∙ sym (append_assoc w (codes ",") h)))
    (cond_some_cases (bytes_eq w []) (option_map Height (whole_of h)) (two_of Both (whole_of w) (whole_of h)) f other.1))
    (cond_some_cases (bytes_eq h []) (option_map Width (whole_of w)) _ f e)

bounds_of_sound : (text w h : List ℕ) (f : Form) → text ≡ w ++ 44 ∷ h → bounds_of w h ≡ Some f → SpellsForm text f
bounds_of_sound text w h f cut e = ⊎_elim
    (λ within. within_sound text w h f cut (starts_with_true w (codes "!") within.0) within.1)
    (λ sides. sides_of_sound text w h f cut sides.1)
    (cond_some_cases (starts_with nat_eq w (codes "!")) (two_of Within (whole_of (drop 1 w)) (whole_of h)) (sides_of w h) f e)

pair_of_sound : (text : List ℕ) (f : Form) (o : Option (List ℕ × List ℕ)) → cut_of 44 text ≡ o → pair_of o ≡ Some f → SpellsForm text f
pair_of_sound text f None e h = absurd (none-some f h)
pair_of_sound text f (Some p) e h = bounds_of_sound text p.0 p.1 f (cut_of_some 44 text p e).0 h

-- A size's form that is read is spelled by its text.
pub form_of_sound : (text : List ℕ) (f : Form) → form_of text ≡ Some f → SpellsForm text f
unfolding form_of
form_of_sound text f h = ⊎_elim
    (λ most. subst (SpellsForm text) (same_Some Max f most.1) (bytes_eq_true text (codes "max") most.0))
    (λ other. ⊎_elim
    (λ percent.
    let n = option_map_some Percent (decimal_of (drop 4 text)) f percent.1 in
    subst (SpellsForm text) n.2 (drop 4 text, decimal_of_sound (drop 4 text) n.0 n.1, starts_with_true text (codes "pct:") percent.0))
    (λ pair. pair_of_sound text f (cut_of 44 text) refl pair.1)
    (cond_some_cases (starts_with nat_eq text (codes "pct:")) (option_map Percent (decimal_of (drop 4 text))) (pair_of (cut_of 44 text)) f
    other.1))
    (cond_some_cases (bytes_eq text (codes "max")) (Some Max) _ f h)

-- A size that is read is spelled by its text.
pub size_of_sound : (text : List ℕ) (s : Size) → size_of text ≡ Some s → SpellsSize text s
unfolding size_of
size_of_sound text s h = ⊎_elim
    (λ up.
    let n = option_map_some (λ (f : Form). record { up = true; form = f }) (form_of (drop 1 text)) s up.1 in
    subst (SpellsSize text) n.2 (drop 1 text, form_of_sound (drop 1 text) n.0 n.1, starts_with_true text (codes "^") up.0))
    (λ plain.
    let n = option_map_some (λ (f : Form). record { up = false; form = f }) (form_of text) s plain.1 in
    subst (SpellsSize text) n.2 (text, form_of_sound text n.0 n.1, refl))
    (cond_some_cases (starts_with nat_eq text (codes "^")) (option_map (λ (f : Form). record { up = true; form = f }) (form_of (drop 1
    text))) _
    s h)

-- a text that begins with another letter than `max` and `pct:`
form_of_other : (c : ℕ) (rest : List ℕ) → eqb c 109 ≡ false → eqb 112 c ≡ false → form_of (c ∷ rest) ≡ pair_of (cut_of 44 (c ∷ rest))
unfolding form_of
form_of_other c rest most percent = rw (most, percent) refl

form_of_max : form_of (codes "max") ≡ Some Max
unfolding form_of
form_of_max = refl

form_of_percent : (rest : List ℕ) → form_of (codes "pct:" ++ rest) ≡ option_map Percent (decimal_of rest)
unfolding form_of
form_of_percent rest = refl

-- the sides on both sides of the comma
bounds_of_width : (w : List ℕ) (n : ℕ) → IsWhole w n → bounds_of w [] ≡ Some (Width n)
bounds_of_width w n s =
    let head = IsDigits_head 9 w s.0 in
    let other = eqb_other_digit head.0 33 head.3 refl in
    let begins : starts_with nat_eq w (codes "!") ≡ false = ap (λ (t : List ℕ). starts_with nat_eq t (codes "!")) head.2 ∙ rw other refl in
    rw begins (ap (option_map Width) (whole_of_complete w n s))

bounds_of_height : (h : List ℕ) (n : ℕ) → IsWhole h n → bounds_of [] h ≡ Some (Height n)
bounds_of_height h n s =
    let head = IsDigits_head 9 h s.0 in
    let some : bytes_eq h [] ≡ false = ap (λ (t : List ℕ). bytes_eq t []) head.2 in
    rw some (ap (option_map Height) (whole_of_complete h n s))

bounds_of_both : (w h : List ℕ) (n m : ℕ) → IsWhole w n → IsWhole h m → bounds_of w h ≡ Some (Both n m)
bounds_of_both w h n m s t =
    let head = IsDigits_head 9 w s.0 in
    let other = eqb_other_digit head.0 33 head.3 refl in
    let begins : starts_with nat_eq w (codes "!") ≡ false = ap (λ (x : List ℕ). starts_with nat_eq x (codes "!")) head.2 ∙ rw other refl in
    let wide : bytes_eq w [] ≡ false = ap (λ (x : List ℕ). bytes_eq x []) head.2 in
    let high : bytes_eq h [] ≡ false = ap (λ (x : List ℕ). bytes_eq x []) (IsDigits_head 9 h t.0).2 in
    rw (begins, high, wide)
    (ap (λ (o : Option ℕ). two_of Both o (whole_of h)) (whole_of_complete w n s) ∙
    ap (λ (o : Option ℕ). two_of Both (Some n) o) (whole_of_complete h m t))

bounds_of_within : (w h : List ℕ) (n m : ℕ) → IsWhole w n → IsWhole h m → bounds_of (33 ∷ w) h ≡ Some (Within n m)
bounds_of_within w h n m s t =
    ap (λ (o : Option ℕ). two_of Within o (whole_of h)) (whole_of_complete w n s) ∙
    ap (λ (o : Option ℕ). two_of Within (Some n) o) (whole_of_complete h m t)

-- a text with a digit first, and a comma behind the digits
form_of_digits : (w h : List ℕ) (n : ℕ) (f : Form) → IsWhole w n → bounds_of w h ≡ Some f → form_of (w ++ 44 ∷ h) ≡ Some f
form_of_digits w h n f s sides =
    let head = IsDigits_head 9 w s.0 in
    let begins : w ++ 44 ∷ h ≡ head.0 ∷ (head.1 ++ 44 ∷ h) = ap (λ (t : List ℕ). t ++ 44 ∷ h) head.2 in
    ap form_of begins
    ∙ form_of_other head.0 (head.1 ++ 44 ∷ h) (eqb_digit_other head.0 109 head.3 refl) (eqb_other_digit head.0 112 head.3 refl)
    ∙ ap (λ (t : List ℕ). pair_of (cut_of 44 t)) (sym begins)
    ∙ ap pair_of (cut_of_at 44 (w ++ 44 ∷ h) w h (IsDigits_lacks 44 9 w refl s.0) refl)
    ∙ sides

form_of_comma : (h : List ℕ) (n : ℕ) → IsWhole h n → form_of (44 ∷ h) ≡ Some (Height n)
form_of_comma h n s =
    form_of_other 44 h refl refl ∙ ap pair_of (cut_of_at 44 (44 ∷ h) [] h (All-nil (λ y. y ≢ 44)) refl) ∙ bounds_of_height h n s

form_of_bang : (w h : List ℕ) (n m : ℕ) → IsWhole w n → IsWhole h m → form_of (33 ∷ (w ++ 44 ∷ h)) ≡ Some (Within n m)
form_of_bang w h n m s t =
    let lacks : Lacks 44 (33 ∷ w) = All-append (λ y. y ≢ 44) (33 ∷ []) w (Lacks_one 44 33 (λ e. cc)) (IsDigits_lacks 44 9 w refl s.0) in
    form_of_other 33 (w ++ 44 ∷ h) refl refl
    ∙ ap pair_of (cut_of_at 44 (33 ∷ (w ++ 44 ∷ h)) (33 ∷ w) h lacks refl) ∙ bounds_of_within w h n m s t

-- A size's form that is spelled is read.
pub form_of_complete : (text : List ℕ) (f : Form) → SpellsForm text f → form_of text ≡ Some f
form_of_complete text Max s = ap form_of s ∙ form_of_max
form_of_complete text (Width n) s = ap form_of s.2 ∙ form_of_digits s.0 [] n (Width n) s.1 (bounds_of_width s.0 n s.1)
form_of_complete text (Height n) s = ap form_of s.2 ∙ form_of_comma s.0 n s.1
form_of_complete text (Percent d) s = ap form_of s.2 ∙ form_of_percent s.0 ∙ ap (option_map Percent) (decimal_of_complete s.0 d s.1)
form_of_complete text (Both n m) s =
    ap form_of (s.4 ∙ append_assoc s.0 (codes ",") s.1) ∙ form_of_digits s.0 s.1 n (Both n m) s.2 (bounds_of_both s.0 s.1 n m s.2 s.3)
form_of_complete text (Within n m) s =
    ap form_of (s.4 ∙ append_assoc (33 ∷ s.0) (codes ",") s.1) ∙ form_of_bang s.0 s.1 n m s.2 s.3

-- no form begins with `^`
IsWhole_no_mark : (sign : ℕ) (text w rest : List ℕ) (n : ℕ) → is_ascii_digit sign ≡ false → IsWhole w n → text ≡ w ++ rest →
    starts_with nat_eq text (sign ∷ []) ≡ false
IsWhole_no_mark sign text w rest n other s e =
    let head = IsDigits_head 9 w s.0 in
    let differs = eqb_other_digit head.0 sign head.3 other in
    ap (λ (t : List ℕ). starts_with nat_eq t (sign ∷ [])) (e ∙ ap (λ (t : List ℕ). t ++ rest) head.2) ∙ rw differs refl

SpellsForm_no_mark : (text : List ℕ) (f : Form) → SpellsForm text f → starts_with nat_eq text (codes "^") ≡ false
SpellsForm_no_mark text Max s = ap (λ (t : List ℕ). starts_with nat_eq t (codes "^")) s
SpellsForm_no_mark text (Width n) s = IsWhole_no_mark 94 text s.0 (codes ",") n refl s.1 s.2
SpellsForm_no_mark text (Height n) s = ap (λ (t : List ℕ). starts_with nat_eq t (codes "^")) s.2
SpellsForm_no_mark text (Percent d) s = ap (λ (t : List ℕ). starts_with nat_eq t (codes "^")) s.2
SpellsForm_no_mark text (Both n m) s = IsWhole_no_mark 94 text s.0 (44 ∷ s.1) n refl s.2 (s.4 ∙ append_assoc s.0 (codes ",") s.1)
SpellsForm_no_mark text (Within n m) s = ap (λ (t : List ℕ). starts_with nat_eq t (codes "^")) s.4

size_of_marked : (form : List ℕ) → size_of (94 ∷ form) ≡ option_map (λ (f : Form). record { up = true; form = f }) (form_of form)
unfolding size_of
size_of_marked form = refl

size_of_plain : (form : List ℕ) → starts_with nat_eq form (codes "^") ≡ false →
    size_of form ≡ option_map (λ (f : Form). record { up = false; form = f }) (form_of form)
unfolding size_of
size_of_plain form no_mark = rw no_mark refl

size_of_by_mark : (up : Bool) (text form : List ℕ) (f : Form) → SpellsForm form f → text ≡ mark up (codes "^") ++ form →
    size_of text ≡ Some (record { up = up; form = f })
size_of_by_mark true text form f s e =
    ap size_of e ∙ size_of_marked form ∙ ap (option_map (λ (x : Form). record { up = true; form = x })) (form_of_complete form f s)
size_of_by_mark false text form f s e =
    ap size_of e ∙ size_of_plain form (SpellsForm_no_mark form f s) ∙
    ap (option_map (λ (x : Form). record { up = false; form = x })) (form_of_complete form f s)

-- A size that is spelled is read.
pub size_of_complete : (text : List ℕ) (s : Size) → SpellsSize text s → size_of text ≡ Some s
size_of_complete text s spelled = size_of_by_mark s.up text spelled.0 s.form spelled.1 spelled.2
