-- What the words of a line are not.
use Rattle.std.proofs.Common.{◌≡◌, ◌<◌, ◌≤◌, ◌+◌, ◌^◌, ℕ, List, [], ◌∷◌, Bool, true, false, codes, drop, length, None}
use Rattle.std.proofs.Common.{◌⊎◌, inl, inr, ⊎_elim, lt_irrefl, arith}
use Rattle.std.proofs.Common.{Result, Ok, Err, refl, sym, ap, subst, ◌∙◌, Bor, true≢false, if◌then◌else◌, not-le_of_lt, bytes_eq, slice_get}
use Rattle.std.specs.Str.Parse.{IsNumeral, digits_value, without_leading_plus}
use Rattle.std.proofs.lemmas.Option.{none-some, same_Some, slice_get_within}
use Rattle.std.proofs.lemmas.List.{drop-drop}
use Rattle.iiif_request.specs.Spells.{Says, SpellsRequest, Texts}
use Rattle.iiif_request.specs.declared.request.Refusal.{Refusal}
use Rattle.iiif_request.specs.declared.request.Refusal.TheVariants as refusal
use Rattle.iiif_keys.specs.declared.keys.TileKey.{TileKey}
use Rattle.iiif_keys.specs.declared.keys.SumKey.{SumKey}
use Rattle.iiif_machine.specs.declared.keys.Key.{Key}
use Rattle.iiif_machine.specs.declared.keys.Key.TheVariants.{Tile, Sum}
use Rattle.iiif_machine.specs.Types.{Request}
use Rattle.iiif_machine.specs.declared.events.Event.{Event}
use Rattle.iiif_machine.specs.declared.events.Event.TheVariants.{Want, Enter, Again, AskPeer, Serve, Reply, Take, Lose, GoLocal, Load}
use Rattle.iiif_machine.specs.declared.events.Event.TheVariants.{SourceFault, Land, Evict, Stop}
use Rattle.iiif_event_list.specs.declared.fault.LineFault.{LineFault}
use Rattle.iiif_event_list.specs.declared.fault.LineFault.TheVariants.{Bad, NoMemory}
use Rattle.iiif_event_list.specs.Spellings.{AddsKey, AreKeys, AreNoEvent, Fits, FitsKey, FitsTile, FitsSum, IsEventOf, IsKey, IsTile, IsSum}
use Rattle.iiif_event_list.specs.Spellings.{IsNumbered, LineWords, NumberAt, WordAt, count_of}
use Rattle.iiif_event_list.specs.Code.{BadUnless, HasEvict, HasKey, HasKeys, HasLand, HasNumber, HasOne, HasRequest, HasSourceFault, HasSum}
use Rattle.iiif_event_list.specs.Code.{HasTake, HasTile, HasWant, HasWord, IsBadUnless, is_numbered}

-- an answer that is bad, where it is bad only unless something holds

abbrev is_bad : {T : Type 0} → Result T LineFault → Bool
is_bad (Ok x) = false
is_bad (Err Bad) = true
is_bad (Err NoMemory) = false

pub bad_is : {T : Type 0} (r : Result T LineFault) (P : Type 0) → BadUnless P r → r ≡ Err Bad → ¬ P
bad_is (Err Bad) P h e = h
bad_is (Err NoMemory) P h e = absurd (true≢false (sym (ap is_bad e)))
bad_is (Ok x) P h e = absurd (true≢false (sym (ap is_bad e)))

-- an answer that another call gave
pub bad_from : {T : Type 0} (P Q : Type 0) (r : Result T LineFault) → (Q → P) → BadUnless P r → BadUnless Q r
bad_from P Q (Ok x) g h = tt
bad_from P Q (Err Bad) g h = λ q. h (g q)
bad_from P Q (Err NoMemory) g h = tt

-- a call that fails with what another failed with
pub bad_as : (P Q : Type 0) (f : LineFault) → (Q → P) → IsBadUnless P f → IsBadUnless Q f
bad_as P Q Bad g h = λ q. h (g q)
bad_as P Q NoMemory g h = tt

-- what a `?` hands on is what the call failed with
pub bad_on : {U : Type 0} (P Q : Type 0) (r : Result U LineFault) (f : LineFault) → (Q → P) → IsBadUnless P f →
    (y : LineFault) × (r ≡ Err y) × (y ≡ f) → BadUnless Q r
bad_on {U} P Q r f g h told =
    subst (λ (x : Result U LineFault). BadUnless Q x) (sym told.1) (bad_as P Q told.0 g (subst (IsBadUnless P) (sym told.2) h))

pub not_bad : (P : Type 0) (f : LineFault) → f ≡ NoMemory → IsBadUnless P f
not_bad P f is = subst (IsBadUnless P) (sym is) tt

-- words

pub same_word : (ws : LineWords) (i : ℕ) (v w : List ℕ) → WordAt ws i v → WordAt ws i w → v ≡ w
same_word ws i v w a b = sym a.2 ∙ (ap (λ (x : Bor (List ℕ)). x.now) (same_Some a.0 b.0 (sym a.1 ∙ b.1)) ∙ b.2)

pub first_is : (ws : LineWords) (v w : List ℕ) → WordAt ws 0 v → v ≡ w → WordAt ws 0 w
first_is ws v w at is = (at.0, at.1, at.2 ∙ is)

pub no_word : (ws : LineWords) (i : ℕ) → slice_get ws i ≡ None → ¬ (HasWord ws i)
no_word ws i none h = none-some h.1.0 (sym none ∙ h.1.1)

pub wordless : (ws : LineWords) → ¬ (HasWord ws 0) → length ws ≡ 0
wordless [] none = refl
wordless (w ∷ ws) none = absurd (none (w.now, (w, refl, refl)))

pub no_number : (ws : LineWords) (i bits : ℕ) → slice_get ws i ≡ None → ¬ (HasNumber ws i bits)
no_number ws i bits none h = no_word ws i none (h.1.0, h.1.1)

pub not_parsed : (ws : LineWords) (i bits : ℕ) (w : List ℕ) → WordAt ws i w →
    ¬ (IsNumeral 10 (without_leading_plus w) × (digits_value 10 (without_leading_plus w) < 2 ^ bits)) → ¬ (HasNumber ws i bits)
not_parsed ws i bits w at not h =
    not (subst (λ (v : List ℕ). IsNumeral 10 (without_leading_plus v) × (digits_value 10 (without_leading_plus v) < 2 ^ bits))
    (same_word ws i h.1.0 w h.1.1 at) (h.1.2, subst (λ (k : ℕ). k < 2 ^ bits) h.1.3 h.2))

pub too_large : (ws : LineWords) (i bits n : ℕ) → NumberAt ws i n → 2 ^ bits ≤ n → ¬ (HasNumber ws i bits)
too_large ws i bits n at large h =
    not-le_of_lt (subst (λ (k : ℕ). k < 2 ^ bits) (h.1.3
    ∙ (ap (λ (w : List ℕ). digits_value 10 (without_leading_plus w)) (same_word ws i h.1.0 at.0 h.1.1 at.1) ∙ sym at.3)) h.2) large

-- a request

unspelled : (t : Texts) (q : Request) (r : Refusal) → Says t (Err r) → SpellsRequest t q → ⊥
unspelled t q refusal.Region says s = says (q.region, s.region)
unspelled t q refusal.Size says s = says.1 (q.size, s.size)
unspelled t q refusal.Rotation says s = says.2 (q.rotation, s.rotation)
unspelled t q refusal.Quality says s = says.3 (q.quality, s.quality)
unspelled t q refusal.Format says s = says.4 s.format
unspelled t q refusal.Head says s = absurd says
unspelled t q refusal.Method says s = absurd says
unspelled t q refusal.Path says s = absurd says
unspelled t q refusal.Identifier says s = absurd says
unspelled t q refusal.Empty says s = absurd says
unspelled t q refusal.Zero says s = absurd says
unspelled t q refusal.Larger says s = absurd says
unspelled t q refusal.Upscale says s = absurd says
unspelled t q refusal.Limit says s = absurd says

abbrev spelled_by : List ℕ → List ℕ → List ℕ → List ℕ → Texts
spelled_by region size rotation quality =
    record { region = region; size = size; rotation = rotation; quality = quality; format = codes "tif" }

not_spelled : (t : Texts) (q : Request) (r : Result Request Refusal) → ((x : Request) → r ≡ Ok x → ⊥) → Says t r → SpellsRequest t q → ⊥
not_spelled t q (Ok x) not says s = not x refl
not_spelled t q (Err e) not says s = unspelled t q e says s

pub not_requested : (ws : LineWords) (i : ℕ) (t : Texts) (r : Result Request Refusal) → WordAt ws i t.region →
    WordAt ws (i + 1) t.size → WordAt ws (i + 2) t.rotation → WordAt ws (i + 3) t.quality → t.format ≡ codes "tif" →
    ((x : Request) → r ≡ Ok x → ⊥) → Says t r → ¬ (HasRequest ws i)
not_requested ws i t r region size rotation quality format not says h =
    let q = h.1 in
    let one : spelled_by q.region q.size q.rotation q.quality ≡ spelled_by t.region q.size q.rotation q.quality =
    ap (λ (w : List ℕ). spelled_by w q.size q.rotation q.quality) (same_word ws i q.region t.region q.regions region) in
    let two : spelled_by t.region q.size q.rotation q.quality ≡ spelled_by t.region t.size q.rotation q.quality =
    ap (λ (w : List ℕ). spelled_by t.region w q.rotation q.quality) (same_word ws (i + 1) q.size t.size q.sizes size) in
    let three : spelled_by t.region t.size q.rotation q.quality ≡ spelled_by t.region t.size t.rotation q.quality =
    ap (λ (w : List ℕ). spelled_by t.region t.size w q.quality) (same_word ws (i + 2) q.rotation t.rotation q.rotations rotation) in
    let four : spelled_by t.region t.size t.rotation q.quality ≡ spelled_by t.region t.size t.rotation t.quality =
    ap (λ (w : List ℕ). spelled_by t.region t.size t.rotation w) (same_word ws (i + 3) q.quality t.quality q.qualities quality) in
    let five : spelled_by t.region t.size t.rotation t.quality ≡ t =
    ap (λ (w : List ℕ). record { region = t.region; size = t.size; rotation = t.rotation; quality = t.quality; format = w }) (sym format) in
    not_spelled t h.0 r not says (subst (λ (x : Texts). SpellsRequest x h.0) (one ∙ (two ∙ (three ∙ (four ∙ five)))) q.spells)

-- keys

differ : (v w : List ℕ) → v ≡ w → bytes_eq v v ≡ true → bytes_eq v w ≡ false → ⊥
differ v w is same other = true≢false (sym same ∙ (ap (bytes_eq v) is ∙ other))

pub tile_has : (ws : LineWords) (k : TileKey) → FitsTile k → IsTile ws k → HasTile ws
tile_has ws k fits is = (
  (k.name, is.name, fits.name),
  (k.edge, is.edge, fits.edge),
  (k.tx, is.column, fits.column),
  (k.ty, is.row, fits.row),
)

pub sum_has : (ws : LineWords) (k : SumKey) → FitsSum k → IsSum ws k → HasSum ws
sum_has ws k fits is = (
  (k.name, is.name, fits.name),
  (k.edge, is.edge, fits.edge),
  (
    (k.rect.x, is.rect.column, fits.rect.column),
    (k.rect.y, is.rect.row, fits.rect.row),
    (k.rect.w, is.rect.width, fits.rect.width),
    (k.rect.h, is.rect.height, fits.rect.height),
  ),
  ((k.size.w, is.size.width, fits.size.width), (k.size.h, is.size.height, fits.size.height)),
  (k.level, is.level, fits.level),
  (k.bx, is.column, fits.column),
  (k.by, is.row, fits.row),
)

key_by : (ws : LineWords) (k : Key) (w : List ℕ) → WordAt ws 0 w → FitsKey k → IsKey ws k → ((w ≡ codes "tile") × HasTile ws) ⊎
    ((w ≡ codes "sum") × HasSum ws)
key_by ws (Tile k) w at fits is = inl (same_word ws 0 w (codes "tile") at is.word, tile_has ws k fits is)
key_by ws (Sum k) w at fits is = inr (same_word ws 0 w (codes "sum") at is.word, sum_has ws k fits is)

pub tile_when : (ws : LineWords) (w : List ℕ) → WordAt ws 0 w → w ≡ codes "tile" → HasKey ws → HasTile ws
tile_when ws w at is h = ⊎_elim (λ (a : (w ≡ codes "tile") × HasTile ws). a.1)
    (λ (a : (w ≡ codes "sum") × HasSum ws). absurd (differ (codes "tile") (codes "sum") (sym is ∙ a.0) refl refl))
    (key_by ws h.0 w at h.1 h.2)

pub sum_when : (ws : LineWords) (w : List ℕ) → WordAt ws 0 w → w ≡ codes "sum" → HasKey ws → HasSum ws
sum_when ws w at is h = ⊎_elim
    (λ (a : (w ≡ codes "tile") × HasTile ws). absurd (differ (codes "sum") (codes "tile") (sym is ∙ a.0) refl refl))
    (λ (a : (w ≡ codes "sum") × HasSum ws). a.1)
    (key_by ws h.0 w at h.1 h.2)

pub no_key : (ws : LineWords) (w : List ℕ) → WordAt ws 0 w → (w ≡ codes "tile" → ⊥) → (w ≡ codes "sum" → ⊥) → ¬ (HasKey ws)
no_key ws w at tile sum h = ⊎_elim (λ (a : (w ≡ codes "tile") × HasTile ws). tile a.0)
    (λ (a : (w ≡ codes "sum") × HasSum ws). sum a.0)
    (key_by ws h.0 w at h.1 h.2)

key_word_by : (ws : LineWords) (k : Key) → IsKey ws k → HasWord ws 0
key_word_by ws (Tile k) is = (codes "tile", is.word)
key_word_by ws (Sum k) is = (codes "sum", is.word)

pub key_word : (ws : LineWords) → HasKey ws → HasWord ws 0
key_word ws h = key_word_by ws h.0 h.2

-- keys behind keys: those that fit and were read so far leave keys

pub record KeysLeft (ws : LineWords) (at : ℕ) : Type 0 where
  pub left : HasKeys ws → HasKeys (drop at ws)

pub all_left : (ws : LineWords) → KeysLeft ws 0
all_left ws = record { left = λ has. has }

same_count : (ws : LineWords) (j k : Key) → IsKey ws j → IsKey ws k → count_of j ≡ count_of k
same_count ws (Tile j) (Tile k) a b = refl
same_count ws (Sum j) (Sum k) a b = refl
same_count ws (Tile j) (Sum k) a b = absurd
    (differ (codes "tile") (codes "sum") (same_word ws 0 (codes "tile") (codes "sum") a.word b.word) refl refl)
same_count ws (Sum j) (Tile k) a b = absurd
    (differ (codes "sum") (codes "tile") (same_word ws 0 (codes "sum") (codes "tile") a.word b.word) refl refl)

no_words_are_left : (w : Bor (List ℕ)) (ws : LineWords) → w ∷ ws ≡ [] → ⊥
no_words_are_left w ws e = cc

-- keys that words have begin with one, where there is a word
pub first_key : (ws : LineWords) → 0 < length ws → HasKeys ws → HasKey ws
first_key [] some h = absurd (lt_irrefl 0 some)
first_key (w ∷ ws) some ([], fit, are) = absurd (no_words_are_left w ws are)
first_key (w ∷ ws) some (k ∷ ks, fit, are) = (k, fit.0, are.0)

behind_first : (ws : LineWords) (j : Key) → 0 < length ws → IsKey ws j → HasKeys ws → HasKeys (drop (count_of j) ws)
behind_first [] j some is h = absurd (lt_irrefl 0 some)
behind_first (w ∷ ws) j some is ([], fit, are) = absurd (no_words_are_left w ws are)
behind_first (w ∷ ws) j some is (k ∷ ks, fit, are) =
    (ks, fit.1, subst (λ (n : ℕ). AreKeys (drop n (w ∷ ws)) ks) (same_count (w ∷ ws) k j are.0 is) are.1)

pub one_left : (ws part : LineWords) (at count m : ℕ) (keys next : List Key) → KeysLeft ws at → AddsKey part keys next count →
    part ≡ drop at ws → 0 < length part → m ≡ at + count → KeysLeft ws m
one_left ws part at count m keys next so_far adds rest some behind = record {
  left = λ has.
      let here : HasKeys part = subst HasKeys (sym rest) (so_far.left has) in
      let next_ones : HasKeys (drop count part) = subst (λ (n : ℕ). HasKeys (drop n part)) (sym adds.counted)
      (behind_first part adds.key some adds.spelled here) in
      let whole : HasKeys (drop count (drop at ws)) = subst (λ (x : LineWords). HasKeys (drop count x)) rest next_ones in
      subst (λ (n : ℕ). HasKeys (drop n ws)) (sym behind) (subst HasKeys (drop-drop count at ws) whole);
}

pub none_left : (ws part : LineWords) (at : ℕ) → KeysLeft ws at → part ≡ drop at ws → 0 < length part → ¬ (HasKey part) → ¬ (HasKeys ws)
none_left ws part at so_far rest some none has = none (first_key part some (subst HasKeys (sym rest) (so_far.left has)))

-- events, by their first words

data Kind : Type 0 where
  Wants : Kind
  Takes : Kind
  Fails : Kind
  Lands : Kind
  Evicts : Kind
  Numbered : Kind

abbrev named : List ℕ → Kind
named w =
    if bytes_eq w (codes "want") then Wants else
    if bytes_eq w (codes "take") then Takes else
    if bytes_eq w (codes "source_fault") then Fails else
    if bytes_eq w (codes "land") then Lands else
    if bytes_eq w (codes "evict") then Evicts else Numbered

abbrev Form : Kind → List ℕ → LineWords → Type 0
Form Wants w ws = HasWant ws
Form Takes w ws = HasTake ws
Form Fails w ws = HasSourceFault ws
Form Lands w ws = HasLand ws
Form Evicts w ws = HasEvict ws
Form Numbered w ws = (is_numbered w ≡ true) × HasOne ws

abbrev word_of : Event → List ℕ
word_of (Want i name q) = codes "want"
word_of (Enter c) = codes "enter"
word_of (Again f) = codes "again"
word_of (AskPeer f) = codes "ask_peer"
word_of (Serve a) = codes "serve"
word_of (Reply c) = codes "reply"
word_of (Take f r) = codes "take"
word_of (Lose f) = codes "lose"
word_of (GoLocal f) = codes "go_local"
word_of (Load f) = codes "load"
word_of (SourceFault f e) = codes "source_fault"
word_of (Land f kept) = codes "land"
word_of (Evict i keys) = codes "evict"
word_of (Stop i) = codes "stop"

begins : (ws : LineWords) (e : Event) → IsEventOf ws e → WordAt ws 0 (word_of e)
begins ws (Want i name q) is = is.1
begins ws (Enter c) is = is.word
begins ws (Again f) is = is.word
begins ws (AskPeer f) is = is.word
begins ws (Serve a) is = is.word
begins ws (Reply c) is = is.word
begins ws (Take f r) is = is.1
begins ws (Lose f) is = is.word
begins ws (GoLocal f) is = is.word
begins ws (Load f) is = is.word
begins ws (SourceFault f e) is = is.1
begins ws (Land f kept) is = is.1
begins ws (Evict i keys) is = is.0
begins ws (Stop i) is = is.word

one_has : (ws : LineWords) (name : List ℕ) (n : ℕ) → n < 2 ^ 64 → IsNumbered name ws n → HasOne ws
one_has ws name n fits is = (is.count, (n, is.number, fits))

form_of : (ws : LineWords) (e : Event) → Fits e → IsEventOf ws e → Form (named (word_of e)) (word_of e) ws
form_of ws (Want i name q) fits is = (is.0, (i, is.2, fits.0), (name, is.3, fits.1), (q, is.4))
form_of ws (Enter c) fits is = (refl, one_has ws (codes "enter") c fits is)
form_of ws (Again f) fits is = (refl, one_has ws (codes "again") f fits is)
form_of ws (AskPeer f) fits is = (refl, one_has ws (codes "ask_peer") f fits is)
form_of ws (Serve a) fits is = (refl, one_has ws (codes "serve") a fits is)
form_of ws (Reply c) fits is = (refl, one_has ws (codes "reply") c fits is)
form_of ws (Take f r) fits is = (is.0, (f, is.2, fits.0), (r, is.3, fits.1))
form_of ws (Lose f) fits is = (refl, one_has ws (codes "lose") f fits is)
form_of ws (GoLocal f) fits is = (refl, one_has ws (codes "go_local") f fits is)
form_of ws (Load f) fits is = (refl, one_has ws (codes "load") f fits is)
form_of ws (SourceFault f e) fits is = (is.0, (f, is.2, fits.0), (e.place, is.3, fits.1), (e.cause, is.4, fits.2))
form_of ws (Land f kept) fits is = (is.0, (f, is.2, fits), kept, is.3)
form_of ws (Evict i keys) fits is = ((i, is.1, fits.0), (keys.items, fits.1, is.2))
form_of ws (Stop i) fits is = (refl, one_has ws (codes "stop") i fits is)

form_at : (ws : LineWords) (w : List ℕ) (e : Event) → WordAt ws 0 w → Fits e → IsEventOf ws e → Form (named w) w ws
form_at ws w e at fits is = subst (λ (v : List ℕ). Form (named v) v ws) (same_word ws 0 (word_of e) w (begins ws e is) at)
    (form_of ws e fits is)

pub word_is : (ws : LineWords) (i : ℕ) (v w : List ℕ) → WordAt ws i v → v ≡ w → WordAt ws i w
word_is ws i v w at is = (at.0, at.1, at.2 ∙ is)

pub no_want : (ws : LineWords) (w : List ℕ) → WordAt ws 0 w → w ≡ codes "want" → ¬ (HasWant ws) → AreNoEvent ws
no_want ws w at same none e fits is = none (form_at ws (codes "want") e (word_is ws 0 w (codes "want") at same) fits is)

pub no_take : (ws : LineWords) (w : List ℕ) → WordAt ws 0 w → w ≡ codes "take" → ¬ (HasTake ws) → AreNoEvent ws
no_take ws w at same none e fits is = none (form_at ws (codes "take") e (word_is ws 0 w (codes "take") at same) fits is)

pub no_source_fault : (ws : LineWords) (w : List ℕ) → WordAt ws 0 w → w ≡ codes "source_fault" → ¬ (HasSourceFault ws) → AreNoEvent ws
no_source_fault ws w at same none e fits is =
    none (form_at ws (codes "source_fault") e (word_is ws 0 w (codes "source_fault") at same) fits is)

pub no_land : (ws : LineWords) (w : List ℕ) → WordAt ws 0 w → w ≡ codes "land" → ¬ (HasLand ws) → AreNoEvent ws
no_land ws w at same none e fits is = none (form_at ws (codes "land") e (word_is ws 0 w (codes "land") at same) fits is)

pub no_evict : (ws : LineWords) (w : List ℕ) → WordAt ws 0 w → w ≡ codes "evict" → ¬ (HasEvict ws) → AreNoEvent ws
no_evict ws w at same none e fits is = none (form_at ws (codes "evict") e (word_is ws 0 w (codes "evict") at same) fits is)

-- an event of another name than these has a number alone

numbered_by : (ws : LineWords) (w name : List ℕ) (n : ℕ) → WordAt ws 0 w → is_numbered name ≡ true → n < 2 ^ 64 → IsNumbered name ws n →
    (is_numbered w ≡ true) × HasOne ws
numbered_by ws w name n at numbered fits is = (
  subst (λ (v : List ℕ). is_numbered v ≡ true) (same_word ws 0 name w is.word at) numbered,
  one_has ws name n fits is,
)

-- none of the names of the other events
pub record IsOther (w : List ℕ) : Type 0 where
  pub want : w ≡ codes "want" → ⊥
  pub take : w ≡ codes "take" → ⊥
  pub source_fault : w ≡ codes "source_fault" → ⊥
  pub land : w ≡ codes "land" → ⊥
  pub evict : w ≡ codes "evict" → ⊥

numbered_form : (ws : LineWords) (w : List ℕ) (e : Event) → WordAt ws 0 w → IsOther w → Fits e → IsEventOf ws e →
    (is_numbered w ≡ true) × HasOne ws
numbered_form ws w (Want i name q) at other fits is = absurd (other.want (same_word ws 0 w (codes "want") at is.1))
numbered_form ws w (Enter c) at other fits is = numbered_by ws w (codes "enter") c at refl fits is
numbered_form ws w (Again f) at other fits is = numbered_by ws w (codes "again") f at refl fits is
numbered_form ws w (AskPeer f) at other fits is = numbered_by ws w (codes "ask_peer") f at refl fits is
numbered_form ws w (Serve a) at other fits is = numbered_by ws w (codes "serve") a at refl fits is
numbered_form ws w (Reply c) at other fits is = numbered_by ws w (codes "reply") c at refl fits is
numbered_form ws w (Take f r) at other fits is = absurd (other.take (same_word ws 0 w (codes "take") at is.1))
numbered_form ws w (Lose f) at other fits is = numbered_by ws w (codes "lose") f at refl fits is
numbered_form ws w (GoLocal f) at other fits is = numbered_by ws w (codes "go_local") f at refl fits is
numbered_form ws w (Load f) at other fits is = numbered_by ws w (codes "load") f at refl fits is
numbered_form ws w (SourceFault f x) at other fits is = absurd (other.source_fault (same_word ws 0 w (codes "source_fault") at is.1))
numbered_form ws w (Land f kept) at other fits is = absurd (other.land (same_word ws 0 w (codes "land") at is.1))
numbered_form ws w (Evict i keys) at other fits is = absurd (other.evict (same_word ws 0 w (codes "evict") at is.0))
numbered_form ws w (Stop i) at other fits is = numbered_by ws w (codes "stop") i at refl fits is

pub no_numbered : (ws : LineWords) (w : List ℕ) → WordAt ws 0 w → IsOther w → ¬ ((is_numbered w ≡ true) × HasOne ws) → AreNoEvent ws
no_numbered ws w at other none e fits is = none (numbered_form ws w e at other fits is)

pub no_name : (ws : LineWords) → ¬ (HasWord ws 0) → AreNoEvent ws
no_name ws none e fits is = none (word_of e, begins ws e is)

pub too_short : (ws : LineWords) → length ws < 2 → ¬ (HasEvict ws)
too_short ws short h =
    let within : 1 < length ws = slice_get_within ws 1 h.0.1.1.0 h.0.1.1.1 in
    omega (arith, short, within)
