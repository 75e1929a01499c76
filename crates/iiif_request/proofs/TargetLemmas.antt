-- Targets: cutting and decoding is sound and complete.
use Rattle.std.proofs.Common.{◌≡◌, ◌≢◌, ℕ, ◌+◌, ◌≤◌, ◌⊎◌, Bool, true, false, List, [], ◌∷◌, ◌++◌, length, take, drop, refl, sym, ap, ◌∙◌}
use Rattle.std.proofs.Common.{subst, arith, Some, None, Option, Ok, Err, Result, inl, inr, ⊎_elim, eqb, ltb, All, append_assoc, append-nil}
use Rattle.std.proofs.Common.{codes}
use Rattle.std.specs.Prelude.{◌==◌, position, bytes_eq, IfOk}
use Rattle.std.specs.List.{slice_split, onto_first, join_with_byte, before_first, after_first, position_or_len, AllZip}
use Rattle.std.proofs.lemmas.Bool.{ltb-true, ltb-false}
use Rattle.std.proofs.lemmas.Bool.Decides.{eqb_tells}
use Rattle.std.proofs.lemmas.List.{take-append-drop}
use Rattle.std.proofs.lemmas.List.Elements.{All-nil, All-cons, All-head, All-tail}
use Rattle.std.proofs.lemmas.List.Sums.{fails_before_first}
use Rattle.std.proofs.lemmas.List.Splits.{slice_split-cons_yes, slice_split-cons_no, slice_split_at, slice_split_none, slice_split_first}
use Rattle.std.proofs.lemmas.List.Splits.{join_with_byte-slice_split, length-slice_split}
use Rattle.std.proofs.lemmas.Slice.Eq.{bytes_eq-Decides}
use Rattle.std.proofs.Math.Seq.{take-append_seam, drop-append_seam}
use Rattle.std.proofs.lemmas.Option.{same_Some, none-some, cond_some}
use Rattle.iiif_request.specs.Spells.{Texts}
use Rattle.iiif_request.specs.declared.target.Target.{Target}
use Rattle.iiif_request.specs.declared.target.SplitFault.{SplitFault}
use Rattle.iiif_request.specs.declared.target.SplitFault.TheVariants.{Path, NoMemory}
use Rattle.iiif_request.specs.Code.{Gives, text_of, identifier_of, base_of, information_of, words_of, image_of, asked_by, path_of, behind}
use Rattle.iiif_request.specs.Code.{asked_behind, asked_within, asked_of}
use Rattle.iiif_request.specs.Targets.{Lacks, IsSegmentOf, IsCut, Resource, base, information, image, IsQualityAndFormat, AreSegmentsOf}
use Rattle.iiif_request.specs.Targets.{AsksFor, resource_of}
use Rattle.iiif_request.proofs.OptionLemmas.{cond_some_cases}
use Rattle.iiif_request.proofs.RegionLemmas.{bytes_eq_true}
use Rattle.iiif_request.proofs.CutLemmas.{ne-eqb, eqb-false, before_first_lacks, before_first_cases, before_first_uncut, before_first_cut}
use Rattle.iiif_request.proofs.EscapeLemmas.{text_of_sound, text_of_complete}

-- The test of a slash.
abbrev pub is_slash : ℕ → Bool
is_slash b = b == 47

-- A path without a slash is one segment.
pub slice_split_uncut : (path : List ℕ) → None ≡ position (λ (b : ℕ). b == 47) path → slice_split is_slash path ≡ path ∷ []
slice_split_uncut path e = by_test (ltb (position_or_len is_slash path) (length path)) refl
  where
    by_test : (t : Bool) → ltb (position_or_len is_slash path) (length path) ≡ t → slice_split is_slash path ≡ path ∷ []
    by_test true h =
        let found : position is_slash path ≡ Some (position_or_len is_slash path) = rw h refl in
        absurd (none-some (position_or_len is_slash path) (e ∙ found))
    by_test false h =
        let past : length path ≤ position_or_len is_slash path = ltb-false _ _ h in
        slice_split_none is_slash path (λ k d below. fails_before_first is_slash path k d (omega arith))

-- A path with a slash is its first segment and those of the rest.
pub slice_split_cut : (path : List ℕ) (end : ℕ) → Some end ≡ position (λ (b : ℕ). b == 47) path
    → slice_split is_slash path ≡ take end path ∷ slice_split is_slash (drop (end + 1) path)
slice_split_cut path end e =
    let found = cond_some (ltb (position_or_len is_slash path) (length path)) (position_or_len is_slash path) end (sym e) in
    subst (λ (n : ℕ). slice_split is_slash path ≡ take n path ∷ slice_split is_slash (drop (n + 1) path)) found.1
    (slice_split_first is_slash path 0 (ltb-true _ _ found.0))

-- A path has at least one segment.
pub slice_split_some : (path : List ℕ) → (part : List ℕ) × (parts : List (List ℕ)) × (slice_split is_slash path ≡ part ∷ parts)
slice_split_some [] = ([], [], refl)
slice_split_some (x ∷ xs) =
    let rest = slice_split_some xs in
    ⊎_elim
    (λ t. ([], slice_split is_slash xs, slice_split-cons_yes is_slash x xs t.0))
    (λ t. (x ∷ rest.0, rest.1, slice_split-cons_no is_slash x xs t.0 ∙ ap (onto_first x) rest.2))
    (eqb_tells x 47)

-- Six segments and more ask for nothing.
pub asked_by_six : (a b c d e path : List ℕ) → asked_by (a ∷ b ∷ c ∷ d ∷ e ∷ slice_split is_slash path) ≡ None
asked_by_six a b c d e path =
    let rest = slice_split_some path in
    ap (λ (l : List (List ℕ)). asked_by (a ∷ b ∷ c ∷ d ∷ e ∷ l)) rest.2

-- no part holds a slash
slice_split_lacks : (path : List ℕ) → All (Lacks 47) (slice_split is_slash path)
slice_split_lacks [] = All-cons (Lacks 47) [] [] (All-nil (λ y. y ≢ 47)) (All-nil (Lacks 47))
slice_split_lacks (x ∷ xs) =
    let rest = slice_split_some xs in
    let lacks : All (Lacks 47) (rest.0 ∷ rest.1) = subst (All (Lacks 47)) rest.2 (slice_split_lacks xs) in
    ⊎_elim
    (λ t. subst (All (Lacks 47)) (sym (slice_split-cons_yes is_slash x xs t.0))
    (All-cons (Lacks 47) [] (slice_split is_slash xs) (All-nil (λ y. y ≢ 47)) (slice_split_lacks xs)))
    (λ t.
    let longer : Lacks 47 (x ∷ rest.0) = All-cons (λ y. y ≢ 47) x rest.0 t.1 (All-head (Lacks 47) rest.0 rest.1 lacks) in
    subst (All (Lacks 47)) (sym (slice_split-cons_no is_slash x xs t.0 ∙ ap (onto_first x) rest.2))
    (All-cons (Lacks 47) (x ∷ rest.0) rest.1 longer (All-tail (Lacks 47) rest.0 rest.1 lacks)))
    (eqb_tells x 47)

lacks_test : (part : List ℕ) → Lacks 47 part → All (λ b. is_slash b ≡ false) part
lacks_test part lacks = λ k d below. ne-eqb _ 47 (lacks k d below)

-- parts without a slash, joined and cut again
slice_split_joined : (parts : List (List ℕ)) → 1 ≤ length parts → All (Lacks 47) parts →
    slice_split is_slash (join_with_byte 47 parts) ≡ parts
slice_split_joined [] some lacks = absurd (omega arith)
slice_split_joined (a ∷ []) some lacks = slice_split_none is_slash a (lacks_test a (All-head (Lacks 47) a [] lacks))
slice_split_joined (a ∷ b ∷ more) some lacks =
    slice_split_at is_slash a 47 (join_with_byte 47 (b ∷ more)) (lacks_test a (All-head (Lacks 47) a (b ∷ more) lacks)) refl
    ∙ ap (λ (l : List (List ℕ)). a ∷ l) (slice_split_joined (b ∷ more) (omega arith) (All-tail (Lacks 47) a (b ∷ more) lacks))

-- path and query
abbrev IsQuery : List ℕ → Type 0
IsQuery query = (query ≡ []) ⊎ ((rest : List ℕ) × (query ≡ codes "?" ++ rest))

path_of_sound : (target : List ℕ) → (query : List ℕ) × (target ≡ path_of target ++ query) × Lacks 63 (path_of target) × IsQuery query
path_of_sound target = ⊎_elim
    (λ cut. (63 ∷ after_first (λ b. b == 63) target, cut, before_first_lacks 63 target, inr (after_first (λ b. b == 63) target, refl)))
    (λ whole. ([], sym (append-nil (path_of target) ∙ whole.0), before_first_lacks 63 target, inl refl))
    (before_first_cases 63 target)

path_of_complete : (target path query : List ℕ) → target ≡ path ++ query → Lacks 63 path → IsQuery query → path_of target ≡ path
path_of_complete target path query e lacks (inl none) =
    let whole : target ≡ path = e ∙ ap (λ (q : List ℕ). path ++ q) none ∙ append-nil path in
    ap path_of whole ∙ (before_first_uncut 63 path lacks).0
path_of_complete target path query e lacks (inr some) = (before_first_cut 63 target path some.0 lacks (e ∙
    ap (λ (q : List ℕ). path ++ q) some.1)).0

-- what stands behind a front
behind_sound : (front text rest : List ℕ) → behind front text ≡ Some rest → text ≡ front ++ rest
behind_sound front text rest h =
    let n = cond_some (bytes_eq (take (length front) text) front) (drop (length front) text) rest h in
    sym (take-append-drop (length front) text) ∙
    ap (λ (t : List ℕ). t ++ drop (length front) text) (bytes_eq_true (take (length front) text) front n.0)
    ∙ ap (λ (t : List ℕ). front ++ t) n.1

behind_complete : (front text rest : List ℕ) → text ≡ front ++ rest → behind front text ≡ Some rest
behind_complete front text rest e =
    let same : bytes_eq (take (length front) (front ++ rest)) front ≡ true = (bytes_eq-Decides _ _).1 (take-append_seam front rest) in
    ap (behind front) e ∙ rw (same, drop-append_seam front rest) refl

-- the last segment
IsQualityAndFormat_first : (text : List ℕ) → IsQualityAndFormat text (before_first (λ b. b == 46) text) (after_first (λ b. b == 46) text)
IsQualityAndFormat_first text = ⊎_elim
    (λ cut. (
      before_first_lacks 46 text,
      inl (cut ∙ sym
          (append_assoc (before_first (λ b. b == 46) text) (codes ".") (after_first (λ b. b == 46) text))),
    ))
    (λ whole. (before_first_lacks 46 text, inr (sym whole.0, whole.1)))
    (before_first_cases 46 text)

IsQualityAndFormat_once : (text quality format : List ℕ) → IsQualityAndFormat text quality format
    → (before_first (λ b. b == 46) text ≡ quality) × (after_first (λ b. b == 46) text ≡ format)
IsQualityAndFormat_once text quality format s = ⊎_elim
    (λ cut. before_first_cut 46 text quality format s.0 (cut ∙ append_assoc quality (codes ".") format))
    (λ whole.
    let parts = before_first_uncut 46 quality s.0 in
    (ap (before_first (λ b. b == 46)) whole.0 ∙ parts.0, ap (after_first (λ b. b == 46)) whole.0 ∙ parts.1 ∙ sym whole.1))
    s.1

-- the identifier
identifier_of_sound : (raw id : List ℕ) (o : Option (List ℕ)) → text_of raw ≡ o → identifier_of o ≡ Some id → IsSegmentOf raw id × (id ≢ [])
identifier_of_sound raw id None e h = absurd (none-some id h)
identifier_of_sound raw id (Some t) e h = ⊎_elim
    (λ none. absurd (none-some id none.1))
    (λ some.
    let same : t ≡ id = same_Some t id some.1 in
    (text_of_sound raw id (e ∙ ap (λ (x : List ℕ). Some x) same), λ empty. eqb-false (length t) 0 some.0 (ap length (same ∙ empty))))
    (cond_some_cases (eqb (length t) 0) None (Some t) id h)

identifier_of_complete : (raw id : List ℕ) → IsSegmentOf raw id → id ≢ [] → identifier_of (text_of raw) ≡ Some id
identifier_of_complete raw id s some = ap identifier_of (text_of_complete raw id s) ∙ given id some
  where
    given : (id : List ℕ) → id ≢ [] → identifier_of (Some id) ≡ Some id
    given [] some = absurd (some refl)
    given (x ∷ xs) some = let more : eqb (length (x ∷ xs)) 0 ≡ false = ne-eqb (length (x ∷ xs)) 0 (λ e. omega (arith, e)) in rw more refl

-- what was asked for, with the texts of the segments
abbrev IsAsked : List (List ℕ) → Resource → Type 0
IsAsked raw r = (segments : List (List ℕ)) × AllZip IsSegmentOf raw segments × AreSegmentsOf segments r

base_of_sound : (i : List ℕ) (r : Resource) (o : Option (List ℕ)) → identifier_of (text_of i) ≡ o → base_of o ≡ Some r → IsAsked (i ∷ []) r
base_of_sound i r None e h = absurd (none-some r h)
base_of_sound i r (Some id) e h =
    let named = identifier_of_sound i id (text_of i) refl e in
    subst (IsAsked (i ∷ [])) (same_Some (base id) r h) (id ∷ [], (named.0, tt), (refl, named.1))

information_of_sound : (i n : List ℕ) (r : Resource) (o p : Option (List ℕ)) → identifier_of (text_of i) ≡ o → text_of n ≡ p →
    information_of o p ≡ Some r → IsAsked (i ∷ n ∷ []) r
information_of_sound i n r None p e f h = absurd (none-some r h)
information_of_sound i n r (Some id) None e f h = absurd (none-some r h)
information_of_sound i n r (Some id) (Some name) e f h =
    let named = identifier_of_sound i id (text_of i) refl e in
    let known = cond_some (bytes_eq name (codes "info.json")) (information id) r h in
    subst (IsAsked (i ∷ n ∷ [])) known.1 (
      id ∷ name ∷ [],
      (named.0, (text_of_sound n name f, tt)),
      (ap (λ (t : List ℕ). id ∷ t ∷ []) (bytes_eq_true name (codes "info.json") known.0), named.1),
    )

words_of_some : (r s t l : Option (List ℕ)) (w : Texts) → words_of r s t l ≡ Some w
    → (a b c d : List ℕ) × (r ≡ Some a) × (s ≡ Some b) × (t ≡ Some c) × (l ≡ Some d)
    × (record { region = a; size = b; rotation = c; quality = before_first (λ x. x == 46) d; format = after_first (λ x. x == 46) d } ≡ w)
words_of_some None s t l w h = absurd (none-some w h)
words_of_some (Some a) None t l w h = absurd (none-some w h)
words_of_some (Some a) (Some b) None l w h = absurd (none-some w h)
words_of_some (Some a) (Some b) (Some c) None w h = absurd (none-some w h)
words_of_some (Some a) (Some b) (Some c) (Some d) w h = (a, b, c, d, refl, refl, refl, refl, same_Some _ w h)

image_of_sound : (i r s t l : List ℕ) (q : Resource) (o : Option (List ℕ)) (p : Option Texts) → identifier_of (text_of i) ≡ o
    → words_of (text_of r) (text_of s) (text_of t) (text_of l) ≡ p → image_of o p ≡ Some q → IsAsked (i ∷ r ∷ s ∷ t ∷ l ∷ []) q
image_of_sound i r s t l q None p e f h = absurd (none-some q h)
image_of_sound i r s t l q (Some id) None e f h = absurd (none-some q h)
image_of_sound i r s t l q (Some id) (Some w) e f h =
    let named = identifier_of_sound i id (text_of i) refl e in
    let n = words_of_some (text_of r) (text_of s) (text_of t) (text_of l) w f in
    let found : IsAsked (i ∷ r ∷ s ∷ t ∷ l ∷ [])
    (image id (record {
      region = n.0;
      size = n.1;
      rotation = n.2;
      quality = before_first (λ x. x == 46) n.3;
      format =
          after_first (λ x. x == 46) n.3;
    })) = (
      id ∷ n.0 ∷ n.1 ∷ n.2 ∷ n.3 ∷ [],
      (named.0, (text_of_sound r n.0 n.4, (text_of_sound s n.1 n.5, (text_of_sound t n.2 n.6, (text_of_sound l n.3 n.7, tt))))),
      (n.3, IsQualityAndFormat_first n.3, refl, named.1),
    ) in
    subst (IsAsked (i ∷ r ∷ s ∷ t ∷ l ∷ [])) (same_Some (image id w) q h)
    (subst (λ (x : Texts). IsAsked (i ∷ r ∷ s ∷ t ∷ l ∷ []) (image id x)) n.8 found)

asked_by_sound : (raw : List (List ℕ)) (r : Resource) → asked_by raw ≡ Some r → IsAsked raw r
asked_by_sound [] r h = absurd (none-some r h)
asked_by_sound (i ∷ []) r h = base_of_sound i r (identifier_of (text_of i)) refl h
asked_by_sound (i ∷ n ∷ []) r h = information_of_sound i n r (identifier_of (text_of i)) (text_of n) refl refl h
asked_by_sound (a ∷ b ∷ c ∷ []) r h = absurd (none-some r h)
asked_by_sound (a ∷ b ∷ c ∷ d ∷ []) r h = absurd (none-some r h)
asked_by_sound (a ∷ b ∷ c ∷ d ∷ e ∷ []) r h = image_of_sound a b c d e r (identifier_of (text_of a))
    (words_of (text_of b) (text_of c) (text_of d) (text_of e)) refl refl h
asked_by_sound (a ∷ b ∷ c ∷ d ∷ e ∷ f ∷ more) r h = absurd (none-some r h)

-- what is asked for so is found
asked_by_base : (raw : List (List ℕ)) (id : List ℕ) → AllZip IsSegmentOf raw (id ∷ []) → id ≢ [] → asked_by raw ≡ Some (base id)
asked_by_base [] id z some = absurd z
asked_by_base (i ∷ []) id z some = ap base_of (identifier_of_complete i id z.0 some)
asked_by_base (i ∷ n ∷ more) id z some = absurd z.1

asked_by_information : (raw : List (List ℕ)) (id : List ℕ) → AllZip IsSegmentOf raw (id ∷ codes "info.json" ∷ []) → id ≢ [] →
    asked_by raw ≡ Some (information id)
asked_by_information [] id z some = absurd z
asked_by_information (i ∷ []) id z some = absurd z.1
asked_by_information (i ∷ n ∷ []) id z some =
    ap (λ (o : Option (List ℕ)). information_of o (text_of n)) (identifier_of_complete i id z.0 some)
    ∙ ap (information_of (Some id)) (text_of_complete n (codes "info.json") z.1.0)
asked_by_information (i ∷ n ∷ m ∷ more) id z some = absurd z.1.1

words_of_complete : (r s t l a b c d : List ℕ) (w : Texts) → IsSegmentOf r a → IsSegmentOf s b → IsSegmentOf t c → IsSegmentOf l d
    → record { region = a; size = b; rotation = c; quality = before_first (λ x. x == 46) d; format = after_first (λ x. x == 46) d } ≡ w
    → words_of (text_of r) (text_of s) (text_of t) (text_of l) ≡ Some w
words_of_complete r s t l a b c d w first second third fourth e =
    ap (λ (o : Option (List ℕ)). words_of o (text_of s) (text_of t) (text_of l)) (text_of_complete r a first)
    ∙ ap (λ (o : Option (List ℕ)). words_of (Some a) o (text_of t) (text_of l)) (text_of_complete s b second)
    ∙ ap (λ (o : Option (List ℕ)). words_of (Some a) (Some b) o (text_of l)) (text_of_complete t c third)
    ∙ ap (λ (o : Option (List ℕ)). words_of (Some a) (Some b) (Some c) o) (text_of_complete l d fourth)
    ∙ ap (λ (x : Texts). Some x) e

same_words : (w : Texts) (last : List ℕ) → IsQualityAndFormat last w.quality w.format
    → record {
      region = w.region;
      size = w.size;
      rotation = w.rotation;
      quality = before_first (λ x. x == 46) last;
      format =
          after_first (λ x. x == 46) last;
    } ≡ w
same_words w last s =
    let parts = IsQualityAndFormat_once last w.quality w.format s in
    ap (λ (q : List ℕ). record {
      region = w.region;
      size = w.size;
      rotation = w.rotation;
      quality = q;
      format =
          after_first (λ x. x == 46) last;
    }) parts.0
    ∙ ap (λ (f : List ℕ). record { region = w.region; size = w.size; rotation = w.rotation; quality = w.quality; format = f }) parts.1

asked_by_image : (raw : List (List ℕ)) (id last : List ℕ) (w : Texts) →
    AllZip IsSegmentOf raw (id ∷ w.region ∷ w.size ∷ w.rotation ∷ last ∷ [])
    → IsQualityAndFormat last w.quality w.format → id ≢ [] → asked_by raw ≡ Some (image id w)
asked_by_image [] id last w z s some = absurd z
asked_by_image (i ∷ []) id last w z s some = absurd z.1
asked_by_image (i ∷ a ∷ []) id last w z s some = absurd z.1.1
asked_by_image (i ∷ a ∷ b ∷ []) id last w z s some = absurd z.1.1.1
asked_by_image (i ∷ a ∷ b ∷ c ∷ []) id last w z s some = absurd z.1.1.1.1
asked_by_image (i ∷ a ∷ b ∷ c ∷ d ∷ []) id last w z s some =
    ap (λ (o : Option (List ℕ)). image_of o (words_of (text_of a) (text_of b) (text_of c) (text_of d))) (identifier_of_complete i id z.0
    some)
    ∙ ap (image_of (Some id)) (words_of_complete a b c d w.region w.size w.rotation last w z.1.0 z.1.1.0 z.1.1.1.0 z.1.1.1.1.0 (same_words
    w last s))
asked_by_image (i ∷ a ∷ b ∷ c ∷ d ∷ e ∷ more) id last w z s some = absurd z.1.1.1.1.1

asked_by_complete : (raw segments : List (List ℕ)) (r : Resource) → AllZip IsSegmentOf raw segments → AreSegmentsOf segments r →
    asked_by raw ≡ Some r
asked_by_complete raw segments (base id) z s = asked_by_base raw id (subst (AllZip IsSegmentOf raw) s.0 z) s.1
asked_by_complete raw segments (information id) z s = asked_by_information raw id (subst (AllZip IsSegmentOf raw) s.0 z) s.1
asked_by_complete raw segments (image id w) z s = asked_by_image raw id s.0 w (subst (AllZip IsSegmentOf raw) s.2 z) s.1 s.3

-- A path behind the prefix and a slash is cut at its slashes.
pub IsCut_behind : (prefix target rooted path : List ℕ) → behind prefix (path_of target) ≡ Some rooted →
    behind (codes "/") rooted ≡ Some path →
    IsCut prefix target (slice_split is_slash path)
IsCut_behind prefix target rooted path first second =
    let query = path_of_sound target in
    record {
      path = path_of target;
      query = query.0;
      whole = query.1;
      path_ends = query.2;
      query_begins = query.3;
      joined =
          behind_sound prefix (path_of target) rooted first
          ∙ ap (λ (t : List ℕ). prefix ++ t) (behind_sound (codes "/") rooted path second)
          ∙ sym (append_assoc prefix (codes "/") path)
          ∙ ap (λ (t : List ℕ). prefix ++ codes "/" ++ t) (sym (join_with_byte-slice_split 47 path));
      some = omega (arith, length-slice_split is_slash path);
      parted = slice_split_lacks path;
    }

asked_behind_sound : (prefix target rooted : List ℕ) (r : Resource) (o : Option (List ℕ)) → behind prefix (path_of target) ≡ Some rooted →
    behind (codes "/") rooted ≡ o
    → asked_behind o ≡ Some r → AsksFor prefix target r
asked_behind_sound prefix target rooted r None e f h = absurd (none-some r h)
asked_behind_sound prefix target rooted r (Some path) e f h =
    let found = asked_by_sound (slice_split is_slash path) r h in
    record {
      raw = slice_split is_slash path;
      segments = found.0;
      cut = IsCut_behind prefix target rooted path e f;
      decoded = found.1;
      asked =
          found.2;
    }

asked_within_sound : (prefix target : List ℕ) (r : Resource) (o : Option (List ℕ)) → behind prefix (path_of target) ≡ o →
    asked_within o ≡ Some r →
    AsksFor prefix target r
asked_within_sound prefix target r None e h = absurd (none-some r h)
asked_within_sound prefix target r (Some rooted) e h = asked_behind_sound prefix target rooted r (behind (codes "/") rooted) e refl h

-- A target asks for the resource that is read.
pub asked_of_sound : (prefix target : List ℕ) (r : Resource) → asked_of prefix target ≡ Some r → AsksFor prefix target r
asked_of_sound prefix target r h = asked_within_sound prefix target r (behind prefix (path_of target)) refl h

-- The resource that a target asks for is read.
pub asked_of_complete : (prefix target : List ℕ) (r : Resource) → AsksFor prefix target r → asked_of prefix target ≡ Some r
asked_of_complete prefix target r a =
    let path : List ℕ = join_with_byte 47 a.raw in
    let at : path_of target ≡ prefix ++ 47 ∷ path =
    path_of_complete target a.cut.path a.cut.query a.cut.whole a.cut.path_ends a.cut.query_begins ∙ a.cut.joined ∙
    append_assoc prefix (codes "/") path in
    ap asked_within (behind_complete prefix (path_of target) (47 ∷ path) at)
    ∙ ap asked_behind (behind_complete (codes "/") (47 ∷ path) path refl)
    ∙ ap asked_by (slice_split_joined a.raw a.cut.some a.cut.parted)
    ∙ asked_by_complete a.raw a.segments r a.decoded a.asked

-- A target asks for at most one resource.
pub AsksFor_once : (prefix target : List ℕ) (r s : Resource) → AsksFor prefix target r → AsksFor prefix target s → r ≡ s
AsksFor_once prefix target r s a b = same_Some r s (sym (asked_of_complete prefix target r a) ∙ asked_of_complete prefix target s b)

-- A target asks for the resource that `split` answers.
pub split_found : (prefix target : List ℕ) (a : Result Target SplitFault) → Gives resource_of a (asked_of prefix target) →
    IfOk a (λ t. AsksFor prefix target (resource_of t))
split_found prefix target (Ok t) h = asked_of_sound prefix target (resource_of t) h
split_found prefix target (Err e) h = tt

-- A target that `split` refuses asks for nothing.
pub split_refused : (prefix target : List ℕ) (a : Result Target SplitFault) → Gives resource_of a (asked_of prefix target) → a ≡ Err Path →
    ¬ ((r : Resource) × AsksFor prefix target r)
split_refused prefix target (Ok t) h e asked = cc
split_refused prefix target (Err Path) h e asked = none-some asked.0 (sym h ∙ asked_of_complete prefix target asked.0 asked.1)
split_refused prefix target (Err NoMemory) h e asked = cc
