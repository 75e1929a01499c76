-- The entry at the first place of a key.
use Rattle.std.proofs.Common.{◌≡◌, ℕ, zero, suc, ◌-◌, ◌<◌, ◌≤◌, max, Bool, true, false, cond, List, [], ◌∷◌, take, length, Some, None}
use Rattle.std.proofs.Common.{refl, sym, ap, subst, ◌∙◌, get_or, is_some, arith}
use Rattle.std.specs.Prelude.{slice_get, position}
use Rattle.std.specs.List.{insert, remove, position_or_len}
use Rattle.std.specs.Map.{lookup, lookup_entry, remove_entry}
use Rattle.std.specs.Option.{option_map_or}
use Rattle.std.proofs.lemmas.Option.{none-some, get_or_from_slice_get, slice_get-get_or, same_Some}
use Rattle.std.proofs.lemmas.List.Quantifiers.{position-Some}
use Rattle.std.proofs.lemmas.List.Sums.{fails_before_first}
use Rattle.std.proofs.lemmas.Bool.{ltb-false, lt-ltb, le-ltb}
use Rattle.iiif_tables.specs.Cache.{Cache, Kept, Side, main_side, hot_side, to_front, replaced, added, added_to, placed, but_oldest}
use Rattle.iiif_tables.specs.Cache.{evict_at_most, shrink, put}
use Rattle.iiif_machine.specs.declared.keys.Key.{Key}
use Rattle.iiif_machine.specs.declared.keys.Value.{Value}
use Rattle.iiif_machine.specs.Keys.{key_eq, entry_size}
use Rattle.iiif_tables.proofs.CacheLaws.{same_cache}
use Rattle.iiif_machine.specs.declared.listing.Entry.{Entry}
use Rattle.iiif_machine.specs.Entries.{entry_of, rows}
use Rattle.iiif_machine.proofs.Mixed.{past}

module _ (p : Key → Bool) where
  abbrev pub is_for : Entry → Bool
  is_for e = p e.key

  -- none of the first i is for the key
  abbrev pub Before : List Entry → ℕ → Entry → Type 0
  Before es i d = (k : ℕ) → k < i → is_for (get_or es k d) ≡ false

  rest : (x : Entry) (es : List Entry) (i : ℕ) (d : Entry) → Before (x ∷ es) (suc i) d → Before es i d
  rest x es i d h k less = h (suc k) (omega arith)

  pub entry_at : (es : List Entry) (i : ℕ) (e : Entry) → slice_get es i ≡ Some e → is_for e ≡ true → Before es i e →
      lookup_entry p (rows es) ≡ Some (entry_of e)
  entry_at [] i e at pass h = absurd (none-some e at)
  entry_at (x ∷ es) zero e at pass h =
      let same : x ≡ e = same_Some x e at in
      let test : p x.key ≡ true = subst (λ (y : Entry). p y.key ≡ true) (sym same) pass in
      ap (λ b. cond b (Some (entry_of x)) (lookup_entry p (rows es))) test ∙ ap (λ (y : Entry). Some (entry_of y)) same
  entry_at (x ∷ es) (suc i) e at pass h =
      let no : p x.key ≡ false = h zero (omega arith) in
      ap (λ b. cond b (Some (entry_of x)) (lookup_entry p (rows es))) no ∙ entry_at es i e at pass (rest x es i e h)

  pub value_at : (es : List Entry) (i : ℕ) (e : Entry) → slice_get es i ≡ Some e → is_for e ≡ true → Before es i e →
      lookup p (rows es) ≡ Some (entry_of e).1
  value_at [] i e at pass h = absurd (none-some e at)
  value_at (x ∷ es) zero e at pass h =
      let same : x ≡ e = same_Some x e at in
      let test : p x.key ≡ true = subst (λ (y : Entry). p y.key ≡ true) (sym same) pass in
      ap (λ b. cond b (Some (entry_of x).1) (lookup p (rows es))) test ∙ ap (λ (y : Entry). Some (entry_of y).1) same
  value_at (x ∷ es) (suc i) e at pass h =
      let no : p x.key ≡ false = h zero (omega arith) in
      ap (λ b. cond b (Some (entry_of x).1) (lookup p (rows es))) no ∙ value_at es i e at pass (rest x es i e h)

  pub others_at : (es : List Entry) (i : ℕ) (e : Entry) → slice_get es i ≡ Some e → is_for e ≡ true → Before es i e →
      remove_entry p (rows es) ≡ rows (remove es i)
  others_at [] i e at pass h = absurd (none-some e at)
  others_at (x ∷ es) zero e at pass h =
      let same : x ≡ e = same_Some x e at in
      let test : p x.key ≡ true = subst (λ (y : Entry). p y.key ≡ true) (sym same) pass in
      ap (λ b. cond b (rows es) (entry_of x ∷ remove_entry p (rows es))) test
  others_at (x ∷ es) (suc i) e at pass h =
      let no : p x.key ≡ false = h zero (omega arith) in
      ap (λ b. cond b (rows es) (entry_of x ∷ remove_entry p (rows es))) no ∙
      ap (λ es. entry_of x ∷ es) (others_at es i e at pass (rest x es i e h))

  -- what `position` finds
  pub record Found (es : List Entry) (i : ℕ) (e : Entry) : Type 0 where
    pub at : slice_get es i ≡ Some e
    pub passes : is_for e ≡ true
    pub before : Before es i e

  pub found : (es : List Entry) (i : ℕ) → position is_for es ≡ Some i → (e : Entry) × Found es i e
  found [] i h = absurd (none-some i h)
  found (x ∷ es) i h =
      let f = position-Some is_for (x ∷ es) i x h in
      let e : Entry = get_or (x ∷ es) i x in
      let g = position-Some is_for (x ∷ es) i e h in
      (e, record { at = slice_get-get_or (x ∷ es) i x f.0; passes = f.1; before = g.2 })

  -- and where it finds nothing
  all_fail : (es : List Entry) → ((k : ℕ) (d : Entry) → k < length es → is_for (get_or es k d) ≡ false) →
      (lookup_entry p (rows es) ≡ None) × (lookup p (rows es) ≡ None) × (remove_entry p (rows es) ≡ rows es)
  all_fail [] h = (refl, refl, refl)
  all_fail (x ∷ es) h =
      let no : p x.key ≡ false = h zero x (omega arith) in
      let more = all_fail es (λ k d less. h (suc k) d (omega arith)) in (
        ap (λ b. cond b (Some (entry_of x)) (lookup_entry p (rows es))) no ∙ more.0,
        ap (λ b. cond b (Some (entry_of x).1) (lookup p (rows es))) no ∙ more.1,
        ap (λ b. cond b (rows es) (entry_of x ∷ remove_entry p (rows es))) no ∙ ap (λ es. entry_of x ∷ es) more.2,
      )

  pub missing : (es : List Entry) → position is_for es ≡ None → (lookup_entry p (rows es) ≡ None) × (lookup p (rows es) ≡ None) ×
      (remove_entry p (rows es) ≡ rows es)
  missing es h =
      let out : length es ≤ position_or_len is_for es = ltb-false _ _ (past _ _ h) in
      all_fail es (λ k d less. fails_before_first is_for es k d (omega arith))

pub touched_some : (k : Key) (es new : List Entry) (i : ℕ) → position (λ (e : Entry). key_eq k e.key) es ≡ Some i →
    ((e : Entry) → slice_get es i ≡ Some e → new ≡ e ∷ remove es i) →
    (true ≡ is_some (lookup (key_eq k) (rows es))) × (rows new ≡ to_front key_eq k (rows es))
touched_some k es new i h is =
    let f = found (key_eq k) es i h in
    let g = f.1 in (
      ap is_some (sym (value_at (key_eq k) es i f.0 g.at g.passes g.before)),
      ap rows (is f.0 g.at) ∙ ap (λ l. entry_of f.0 ∷ l) (sym (others_at (key_eq k) es i f.0 g.at g.passes g.before))
          ∙ ap (λ o. option_map_or (λ e. e ∷ remove_entry (key_eq k) (rows es)) o (rows es))
          (sym (entry_at (key_eq k) es i f.0 g.at g.passes g.before)),
    )

pub touched_none : (k : Key) (es : List Entry) → position (λ (e : Entry). key_eq k e.key) es ≡ None →
    (false ≡ is_some (lookup (key_eq k) (rows es))) × (rows es ≡ to_front key_eq k (rows es))
touched_none k es h =
    let m = missing (key_eq k) es h in
    (ap is_some (sym m.1), ap (λ o. option_map_or (λ e. e ∷ remove_entry (key_eq k) (rows es)) o (rows es)) (sym m.0))

pub removed_some : (k : Key) (es : List Entry) (i : ℕ) → position (λ (e : Entry). key_eq k e.key) es ≡ Some i →
    rows (remove es i) ≡ remove_entry (key_eq k) (rows es)
removed_some k es i h = let f = found (key_eq k) es i h in sym (others_at (key_eq k) es i f.0 f.1.at f.1.passes f.1.before)

pub removed_none : (k : Key) (es : List Entry) → position (λ (e : Entry). key_eq k e.key) es ≡ None →
    rows es ≡ remove_entry (key_eq k) (rows es)
removed_none k es h = sym ((missing (key_eq k) es h).2)

pub replaced_some : (e : Entry) (es new : List Entry) (i : ℕ) → position (λ (x : Entry). key_eq e.key x.key) es ≡ Some i →
    new ≡ e ∷ remove es i →
    (is_some (lookup (key_eq e.key) (rows es)) ≡ true) × (rows new ≡ replaced key_eq e.key (entry_of e).1 (rows es))
replaced_some e es new i h is =
    let f = found (key_eq e.key) es i h in (
      ap is_some (value_at (key_eq e.key) es i f.0 f.1.at f.1.passes f.1.before),
      ap rows is ∙
          ap (λ l. entry_of e ∷ l) (removed_some e.key es i h),
    )

pub replaced_none : (e : Entry) (es : List Entry) → position (λ (x : Entry). key_eq e.key x.key) es ≡ None →
    is_some (lookup (key_eq e.key) (rows es)) ≡ false
replaced_none e es h = ap is_some ((missing (key_eq e.key) es h).1)

rows-take : (n : ℕ) (es : List Entry) → rows (take n es) ≡ take n (rows es)
rows-take zero [] = refl
rows-take zero (x ∷ es) = refl
rows-take (suc n) [] = refl
rows-take (suc n) (x ∷ es) = ap (λ l. entry_of x ∷ l) (rows-take n es)

rows-length : (es : List Entry) → length (rows es) ≡ length es
rows-length [] = refl
rows-length (x ∷ es) = ap suc (rows-length es)

at_front : (es : List Entry) (e : Entry) → insert es 0 e ≡ e ∷ es
at_front [] e = refl
at_front (x ∷ es) e = refl

pub added_by : (es put new : List Entry) (room m : ℕ) (e : Entry) → put ≡ insert es 0 e → m ≡ max room 1 → new ≡ take m put →
    rows new ≡ added room (entry_of e) (rows es)
added_by es put new room m e is size cut =
    let more : m ≡ suc (room - 1) = omega arith in
    ap rows (cut ∙ ap (take m) (is ∙ at_front es e) ∙ ap (λ n. take n (e ∷ es)) more) ∙ ap (λ l. entry_of e ∷ l) (rows-take (room - 1) es)

pub popped : (es new : List Entry) (n : ℕ) → n ≡ length es → new ≡ take (n - 1) es → rows new ≡ but_oldest (rows es)
popped es new n size is = ap rows is ∙ rows-take (n - 1) es ∙ ap (λ m. take (m - 1) (rows es)) (size ∙ sym (rows-length es))

pub evict_zero : (c : Cache Key Value) → evict_at_most entry_size 0 c ≡ c
unfolding evict_at_most
evict_zero c = refl

abbrev made : List Entry → List Entry → ℕ → ℕ → Cache Key Value
made m h l r = record { main = rows m; hot = rows h; limit = l; room = r }

placed_main : (s : Side) (k : Key) (e : Kept Value) (c : Cache Key Value) → is_some (lookup (key_eq k) c.main) ≡ true →
    placed key_eq k s e c ≡ record c { main = replaced key_eq k e c.main }
unfolding placed
placed_main s k e c h = rw h refl

placed_hot : (s : Side) (k : Key) (e : Kept Value) (c : Cache Key Value) → is_some (lookup (key_eq k) c.main) ≡ false →
    is_some (lookup (key_eq k) c.hot) ≡ true → placed key_eq k s e c ≡ record c { hot = replaced key_eq k e c.hot }
unfolding placed
placed_hot s k e c h g = rw (h, g) refl

placed_new : (s : Side) (k : Key) (e : Kept Value) (c : Cache Key Value) → is_some (lookup (key_eq k) c.main) ≡ false →
    is_some (lookup (key_eq k) c.hot) ≡ false → placed key_eq k s e c ≡ added_to key_eq k s e c
unfolding placed
placed_new s k e c h g = rw (h, g) refl

pub in_main : (s : Side) (e : Entry) (m m' h : List Entry) (l r : ℕ) → (is_some (lookup (key_eq e.key) (rows m)) ≡ true) ×
    (rows m' ≡ replaced key_eq e.key (entry_of e).1 (rows m)) →
    made m' h l r ≡ placed key_eq e.key s (entry_of e).1 (made m h l r)
in_main s e m m' h l r p = same_cache _ _ _ _ _ _ _ p.1 refl refl ∙ sym (placed_main s e.key (entry_of e).1 (made m h l r) p.0)

abbrev pub Missed : Entry → Entry → List Entry → List Entry → Type 0
Missed d e m m' = (d ≡ e) × (m' ≡ m) × (is_some (lookup (key_eq e.key) (rows m)) ≡ false)

pub in_hot : (s : Side) (d e : Entry) (m m' h h' : List Entry) (l r : ℕ) → Missed d e m m' →
    (is_some (lookup (key_eq d.key) (rows h)) ≡ true) × (rows h' ≡ replaced key_eq d.key (entry_of d).1 (rows h)) →
    made m' h' l r ≡ placed key_eq e.key s (entry_of e).1 (made m h l r)
in_hot s d e m m' h h' l r p q =
    let is = subst (λ (x : Entry). (is_some (lookup (key_eq x.key) (rows h)) ≡ true) ×
    (rows h' ≡ replaced key_eq x.key (entry_of x).1 (rows h))) p.0 q in
    same_cache _ _ _ _ _ _ _ (ap rows p.1) is.1 refl ∙ sym (placed_hot s e.key (entry_of e).1 (made m h l r) p.2 is.0)

both : (d' d e : Entry) (h : List Entry) → d ≡ e → is_some (lookup (key_eq d.key) (rows h)) ≡ false →
    is_some (lookup (key_eq e.key) (rows h)) ≡ false
both d' d e h is gone = subst (λ (x : Entry). is_some (lookup (key_eq x.key) (rows h)) ≡ false) is gone

pub new_main : (b d e : Entry) (m m' n h h' : List Entry) (l r : ℕ) → Missed d e m m' → Missed b d h h' →
    rows n ≡ added r (entry_of b) (rows m') →
    made n h' l r ≡ placed key_eq e.key main_side (entry_of e).1 (made m h l r)
new_main b d e m m' n h h' l r p q is =
    same_cache _ _ _ _ _ _ _ (is ∙ ap (λ x. added r (entry_of x) (rows m')) (q.0 ∙ p.0) ∙ ap (λ x. added r (entry_of e) (rows x)) p.1)
    (ap rows q.1) refl
    ∙ sym (placed_new main_side e.key (entry_of e).1 (made m h l r) p.2 (both b d e h p.0 q.2))

pub new_hot : (b d e : Entry) (m m' n h h' : List Entry) (l r : ℕ) → Missed d e m m' → Missed b d h h' →
    rows n ≡ added r (entry_of b) (rows h') →
    made m' n l r ≡ placed key_eq e.key hot_side (entry_of e).1 (made m h l r)
new_hot b d e m m' n h h' l r p q is =
    same_cache _ _ _ _ _ _ _ (ap rows p.1) (is ∙ ap (λ x. added r (entry_of x) (rows h')) (q.0 ∙ p.0) ∙
    ap (λ x. added r (entry_of e) (rows x)) q.1) refl
    ∙ sym (placed_new hot_side e.key (entry_of e).1 (made m h l r) p.2 (both b d e h p.0 q.2))

pub put_big : (s : Side) (k : Key) (e : Kept Value) (c : Cache Key Value) → c.limit < entry_size k e.value →
    put entry_size key_eq s k e c ≡ c
unfolding put
put_big s k e c h = let big = lt-ltb c.limit (entry_size k e.value) h in rw big refl

pub put_fits : (s : Side) (k : Key) (e : Kept Value) (c : Cache Key Value) → entry_size k e.value ≤ c.limit →
    put entry_size key_eq s k e c ≡ shrink entry_size (placed key_eq k s e c)
unfolding put
put_fits s k e c h = let small = le-ltb c.limit (entry_size k e.value) h in rw small refl

pub looked_some : (k : Key) (es : List Entry) (i : ℕ) (e d : Entry) → position (λ (x : Entry). key_eq k x.key) es ≡ Some i →
    e ≡ get_or es i d → Some (entry_of e).1 ≡ lookup (key_eq k) (rows es)
looked_some k es i e d h is =
    let f = found (key_eq k) es i h in
    let same : e ≡ f.0 = is ∙ get_or_from_slice_get es i f.0 d f.1.at in
    ap (λ (x : Entry). Some (entry_of x).1) same ∙ sym (value_at (key_eq k) es i f.0 f.1.at f.1.passes f.1.before)

pub looked_none : (k : Key) (es : List Entry) → position (λ (x : Entry). key_eq k x.key) es ≡ None → None ≡ lookup (key_eq k) (rows es)
looked_none k es h = sym ((missing (key_eq k) es h).1)
