-- The whole lines of a head's front: never more than those of the head, less the empty one that ends it.
use Rattle.std.proofs.Common.{◌≡◌, ℕ, zero, suc, ◌+◌, ◌<◌, ◌≤◌, Bool, true, false, List, [], ◌∷◌, ◌++◌, length, take, drop, sym, ap, ◌∙◌}
use Rattle.std.proofs.Common.{append-nil, arith, refl, append_assoc, ◌⊎◌, inl, inr}
use Rattle.std.specs.Prelude.{nat_lt, count_by, get_or, All, IsTrue, ◌==◌, ◌||◌, if◌then◌else◌, cond, not, ◌&&◌}
use Rattle.std.specs.List.{flat_map, list_any}
use Rattle.std.proofs.lemmas.List.Sums.{sum_by-append, sum_by-cons}
use Rattle.std.proofs.lemmas.List.{take-append-le, take-append-drop, drop_all}
use Rattle.std.proofs.Math.Seq.{take-append_seam, drop-cons}
use Rattle.std.proofs.Math.ListN.{length-append}
use Rattle.std.proofs.lemmas.List.Concat.{flat_map-cons}
use Rattle.std.proofs.lemmas.Bool.{eqb-true, ltb-true, ltb-false}
use Rattle.httparse.specs.Grammar.{AllPass, LineEnd, crlf, lf, print_end}
use Rattle.httparse.specs.Grammar.{print_blank, Field, IsField, print_field, print_section, RequestHead}
use Rattle.httparse.specs.Grammar.{IsRequestHead, ReadsRequest, HasNoRequest, print_request}
use Rattle.httparse.specs.Grammar.{print_version, is_token_byte, is_uri_byte, is_value_byte}
use Rattle.httparse.specs.Grammar.{IsToken, EndsInTarget}
use Rattle.iiif_http_front.specs.RequestHeads.{field_limit}
use Rattle.iiif_http_front.specs.Reading.{behind_blank, whole_lines, HasFewFields, IsBad, many_lines}

-- how many line feeds there are
abbrev pub feeds : List ℕ → ℕ
feeds bytes = count_by (λ b. b == 10) bytes

pub feeds-append : (a b : List ℕ) → feeds (a ++ b) ≡ feeds a + feeds b
feeds-append a b = sum_by-append _ a b

-- bytes of a class without it have none
none_of : (test : ℕ → Bool) → test 10 ≡ false → (bytes : List ℕ) → AllPass test bytes → feeds bytes ≡ 0
none_of test never [] all = refl
none_of test never (b ∷ bytes) all =
    let rest : feeds bytes ≡ 0 = none_of test never bytes (λ k d less. all (suc k) d (omega (arith, less))) in
    let first : IsTrue (test b) = all 0 b (omega arith) in
    (elim (b == 10) as (λ (t : Bool). (b == 10) ≡ t → feeds (b ∷ bytes) ≡ 0) [
      | true ↦ λ is. let both : false ≡ true = sym never ∙ ap test (sym (eqb-true b 10 is)) ∙ first in cc
      | false ↦ λ not. rw not rest
    ]) refl

end_feeds : (e : LineEnd) → feeds (print_end e) ≡ 1
end_feeds crlf = refl
end_feeds lf = refl

token_never : is_token_byte 10 ≡ false
unfolding is_token_byte
token_never = refl

token_never_returns : is_token_byte 13 ≡ false
unfolding is_token_byte
token_never_returns = refl

field_feeds : (f : Field) → IsField f → feeds (print_field f) ≡ 1
field_feeds f is =
    let whole : feeds (print_field f) ≡ feeds (f.name ++ (58 ∷ f.raw)) + feeds (print_end f.end) =
    feeds-append (f.name ++ (58 ∷ f.raw)) (print_end f.end) in
    let front : feeds (f.name ++ (58 ∷ f.raw)) ≡ feeds f.name + feeds f.raw = feeds-append f.name (58 ∷ f.raw) in
    let name = none_of is_token_byte token_never f.name is.name.1 in
    omega (arith, whole, front, name, none_of is_value_byte refl f.raw is.raw, end_feeds f.end)

fields_feeds : (fs : List Field) → All IsField fs → feeds (flat_map print_field fs) ≡ length fs
fields_feeds [] all = refl
fields_feeds (f ∷ fs) all =
    let rest = fields_feeds fs (λ k d less. all (suc k) d (omega (arith, less))) in
    omega (
      arith,
      ap feeds (flat_map-cons print_field f fs),
      feeds-append (print_field f) (flat_map print_field fs),
      field_feeds f (all 0 f (omega arith)),
      rest,
    )

feeds_grow : (b : ℕ) (bytes : List ℕ) → feeds bytes ≤ feeds (b ∷ bytes)
feeds_grow b bytes = omega (arith, sum_by-cons (λ (x : ℕ). cond (x == 10) 1 0) b bytes)

behind_less : (bytes : List ℕ) → feeds (behind_blank bytes) ≤ feeds bytes
unfolding behind_blank
behind_less [] = omega arith
behind_less (b ∷ bytes) =
    let less : feeds (behind_blank bytes) ≤ feeds (b ∷ bytes) = omega (arith, behind_less bytes, feeds_grow b bytes) in
    elim (b == 13 || b == 10) as (λ (t : Bool). feeds (if t then behind_blank bytes else b ∷ bytes) ≤ feeds (b ∷ bytes)) [
      | true ↦ less
      | false ↦ omega arith
    ]

behind-append : (a b : List ℕ) → (behind_blank a ≡ []) ⊎ (behind_blank (a ++ b) ≡ behind_blank a ++ b)
unfolding behind_blank
behind-append [] b = inl refl
behind-append (x ∷ a) b = (elim (x == 13 || x == 10) as
    (λ (t : Bool). (x == 13 || x == 10) ≡ t → ((if t then behind_blank a else x ∷ a) ≡ [])
    ⊎ ((if t then behind_blank (a ++ b) else x ∷ (a ++ b)) ≡ (if t then behind_blank a else x ∷ a) ++ b)) [
      | true ↦ λ is. behind-append a b
      | false ↦ λ not. inr refl
    ]) refl

behind_ends : (ends : List LineEnd) (bytes : List ℕ) → behind_blank (print_blank ends ++ bytes) ≡ behind_blank bytes
unfolding behind_blank
behind_ends [] bytes = refl
behind_ends (crlf ∷ ends) bytes = behind_ends ends bytes
behind_ends (lf ∷ ends) bytes = behind_ends ends bytes

version_feeds : (minor : ℕ) → minor ≤ 1 → feeds (print_version minor) ≡ 0
version_feeds zero fits = refl
version_feeds (suc zero) fits = refl
version_feeds (suc (suc n)) fits = absurd (omega (arith, fits))

-- six texts, one behind the other
to_the_right : (a b c d e f : List ℕ) → a ++ b ++ c ++ d ++ e ++ f ≡ a ++ (b ++ (c ++ (d ++ (e ++ f))))
to_the_right a b c d e f = simp append_assoc refl

-- the first byte of a token begins a head
token_begins : (b : ℕ) → is_token_byte b ≡ true → (b == 13 || b == 10) ≡ false
token_begins b token = (elim (b == 13) as (λ (t : Bool). (b == 13) ≡ t → (t || b == 10) ≡ false) [
  | true ↦ λ is. let both : false ≡ true = sym token_never_returns ∙ ap is_token_byte (sym (eqb-true b 13 is)) ∙ token in cc
  | false ↦ λ no. (elim (b == 10) as (λ (t : Bool). (b == 10) ≡ t → (false || t) ≡ false) [
    | true ↦ λ is. let both : false ≡ true = sym token_never ∙ ap is_token_byte (sym (eqb-true b 10 is)) ∙ token in cc
    | false ↦ λ not. refl
  ]) refl
]) refl

method_begins : (method rest : List ℕ) → IsToken method → behind_blank (method ++ rest) ≡ method ++ rest
unfolding behind_blank
method_begins [] rest is = absurd (omega (arith, is.0))
method_begins (b ∷ method) rest is = rw (token_begins b (is.1 0 b (omega arith))) refl

-- a head's lines: the first, one for each field, and the empty one
head_lines : (h : RequestHead) → IsRequestHead h → whole_lines (print_request h) ≡ length h.fields + 2
unfolding print_request whole_lines
head_lines h is =
    let section : List ℕ = print_section h.fields h.last in
    let after_target : List ℕ = print_version h.minor ++ (print_end h.line_end ++ section) in
    let behind : List ℕ = h.method ++ (32 ∷ (h.target ++ (32 ∷ after_target))) in
    let whole : print_request h ≡ print_blank h.blank ++ behind =
    to_the_right (print_blank h.blank) h.method (32 ∷ h.target) (32 ∷ print_version h.minor) (print_end h.line_end) section in
    let same : feeds (behind_blank (print_request h)) ≡ feeds (behind_blank behind) =
    ap (λ t. feeds (behind_blank t)) whole ∙ ap feeds (behind_ends h.blank behind) in
    let at_method : feeds behind ≡ feeds h.method + feeds (h.target ++ (32 ∷ after_target)) =
    feeds-append h.method (32 ∷ (h.target ++ (32 ∷ after_target))) in
    let at_target : feeds (h.target ++ (32 ∷ after_target)) ≡ feeds h.target + feeds after_target =
    feeds-append h.target (32 ∷ after_target) in
    let at_version : feeds after_target ≡ feeds (print_version h.minor) + feeds (print_end h.line_end ++ section) =
    feeds-append (print_version h.minor) (print_end h.line_end ++ section) in
    let at_section : feeds section ≡ feeds (flat_map print_field h.fields) + feeds (print_end h.last) =
    feeds-append (flat_map print_field h.fields) (print_end h.last) in
    omega (
      arith,
      same,
      ap feeds (method_begins h.method (32 ∷ (h.target ++ (32 ∷ after_target))) is.method),
      at_method,
      at_target,
      at_version,
      feeds-append (print_end h.line_end) section,
      at_section,
      none_of is_token_byte token_never h.method is.method.1,
      none_of is_uri_byte refl h.target is.target.1,
      version_feeds h.minor is.minor,
      end_feeds h.line_end,
      end_feeds h.last,
      fields_feeds h.fields is.fields,
    )

end_last : (e : LineEnd) → (front : List ℕ) × (print_end e ≡ front ++ 10 ∷ [])
end_last crlf = (13 ∷ [], refl)
end_last lf = ([], refl)

-- a head ends with a line feed
ends_in_feed : (h : RequestHead) → (front : List ℕ) × (print_request h ≡ front ++ 10 ∷ [])
unfolding print_request
ends_in_feed h =
    let last = end_last h.last in
    let first : List ℕ = h.method ++ 32 ∷ h.target ++ 32 ∷ print_version h.minor ++ print_end h.line_end ++ flat_map print_field h.fields in
    (print_blank h.blank ++ first ++ last.0, rw last.1 (simp (append_assoc) refl))

-- so does each of its ends
pub last_feeds : (a b front : List ℕ) → a ++ b ≡ front ++ 10 ∷ [] → 0 < length b → 0 < feeds b
last_feeds [] b front is some = omega (arith, ap feeds is, feeds-append front (10 ∷ []))
last_feeds (x ∷ a) b [] is some = absurd (omega (arith, ap length is, length-append a b, some))
last_feeds (x ∷ a) b (y ∷ front) is some = last_feeds a b front (cc is) some

no_feed : (b : ℕ) (bytes : List ℕ) → (b == 13 || b == 10) ≡ false → feeds (b ∷ bytes) ≡ feeds bytes
no_feed b bytes is = (elim (b == 10) as (λ (t : Bool). (b == 10) ≡ t → feeds (b ∷ bytes) ≡ feeds bytes) [
  | true ↦ λ feed. let both : true ≡ false = sym (ap (λ (x : ℕ). x == 13 || x == 10) (eqb-true b 10 feed)) ∙ is in cc
  | false ↦ λ no. rw no refl
]) refl

-- the whole lines in what is left of a head that has begun, or not yet
pub lines_left : Bool → List ℕ → ℕ
lines_left begun bytes = if begun then feeds bytes else whole_lines bytes

pub none_left : (begun : Bool) → lines_left begun [] ≡ 0
unfolding whole_lines behind_blank lines_left
none_left true = refl
none_left false = refl

pub none_begun : (bytes : List ℕ) → lines_left false bytes ≡ whole_lines bytes
unfolding lines_left
none_begun bytes = refl

pub next_line : (begun : Bool) (b : ℕ) (bytes : List ℕ) → lines_left begun (b ∷ bytes)
    ≡ cond (begun && b == 10) 1 0 + lines_left (begun || not (b == 13 || b == 10)) bytes
unfolding whole_lines behind_blank lines_left
next_line true b bytes = sum_by-cons (λ (x : ℕ). cond (x == 10) 1 0) b bytes
next_line false b bytes = (elim (b == 13 || b == 10) as (λ (t : Bool). (b == 13 || b == 10) ≡ t →
    feeds (if t then behind_blank bytes else b ∷ bytes) ≡ 0 + (if not t then feeds bytes else feeds (behind_blank bytes))) [
      | true ↦ λ is. omega arith
      | false ↦ λ is. omega (arith, no_feed b bytes is)
    ]) refl

one_at_most : (t : Bool) → cond t 1 0 ≤ 1
one_at_most true = omega arith
one_at_most false = omega arith

-- one byte further
pub line_passed : (begun now : Bool) (bytes : List ℕ) (i lines ended : ℕ) → i < length bytes
    → ended ≡ cond (begun && get_or bytes i 0 == 10) 1 0 → now ≡ (begun || not (get_or bytes i 0 == 13 || get_or bytes i 0 == 10))
    → whole_lines bytes ≡ lines + lines_left begun (drop i bytes) → lines ≤ i
    → (whole_lines bytes ≡ (lines + ended) + lines_left now (drop (i + 1) bytes)) × (lines + ended ≤ i + 1)
line_passed begun now bytes i lines ended less end begins so_far few =
    let rest : List ℕ = drop (suc i) bytes in
    let here : drop i bytes ≡ get_or bytes i 0 ∷ rest = drop-cons bytes i 0 less in
    let step : suc i ≡ i + 1 = omega arith in
    let further : lines_left now (drop (i + 1) bytes) ≡ lines_left (begun || not (get_or bytes i 0 == 13 || get_or bytes i 0 == 10)) rest =
    ap (λ (t : Bool). lines_left t (drop (i + 1) bytes)) begins
    ∙ ap (λ k. lines_left (begun || not (get_or bytes i 0 == 13 || get_or bytes i 0 == 10)) (drop k bytes)) (sym step) in (
      omega (arith, so_far, ap (lines_left begun) here, next_line begun (get_or bytes i 0) rest, end, further),
      omega (arith, few, end, one_at_most (begun && get_or bytes i 0 == 10)),
    )

pub all_passed : (begun : Bool) (bytes : List ℕ) (i lines : ℕ) → length bytes ≤ i
    → whole_lines bytes ≡ lines + lines_left begun (drop i bytes) → lines ≡ whole_lines bytes
all_passed begun bytes i lines over so_far =
    omega (arith, so_far, ap (lines_left begun) (drop_all i bytes over), none_left begun)

-- more bytes have no fewer whole lines, and as many more at most as there are line feeds in them
pub lines_grow : (a b : List ℕ) → whole_lines a ≤ whole_lines (a ++ b)
unfolding whole_lines
lines_grow a b = elim (behind-append a b) as (λ _. feeds (behind_blank a) ≤ feeds (behind_blank (a ++ b))) [
  | inl blank ↦ omega (arith, ap feeds blank)
  | inr same ↦ omega (arith, ap feeds same, feeds-append (behind_blank a) b)
]

behind_more : (a b : List ℕ) → feeds (behind_blank (a ++ b)) ≤ feeds (behind_blank a) + feeds b
unfolding behind_blank
behind_more [] b = omega (arith, behind_less b)
behind_more (x ∷ a) b = elim (x == 13 || x == 10) as
    (λ (t : Bool). feeds (if t then behind_blank (a ++ b) else x ∷ (a ++ b)) ≤ feeds (if t then behind_blank a else x ∷ a) + feeds b) [
      | true ↦ behind_more a b
      | false ↦ omega (arith, feeds-append (x ∷ a) b)
    ]

-- no line ends in a target
pub target_lines : (bytes : List ℕ) → EndsInTarget bytes → whole_lines bytes ≡ 0
unfolding whole_lines
target_lines bytes at =
    let behind : List ℕ = at.1 ++ (32 ∷ at.2) in
    let same : feeds (behind_blank bytes) ≡ feeds (behind_blank behind) =
    ap (λ t. feeds (behind_blank t)) (at.5 ∙ append_assoc (print_blank at.0) at.1 (32 ∷ at.2)) ∙ ap feeds (behind_ends at.0 behind) in
    omega (
      arith,
      same,
      behind_less behind,
      feeds-append at.1 (32 ∷ at.2),
      none_of is_token_byte token_never at.1 at.3.1,
      none_of is_uri_byte refl at.2 at.4,
    )

-- what lacks the empty line alone of a head has its other lines
pub exceeding_lines : (front : List ℕ) (h : RequestHead) → ReadsRequest (front ++ 10 ∷ []) h [] → length h.fields < whole_lines front
unfolding whole_lines
exceeding_lines front h reads =
    let whole : front ++ 10 ∷ [] ≡ print_request h = reads.1 ∙ append-nil (print_request h) in
    omega (arith, ap whole_lines whole, head_lines h reads.0, behind_more front (10 ∷ []))

-- what isn't a whole head, of an input that begins with one, is a front of it
pub front_of : (front rest head more : List ℕ) → front ++ rest ≡ head ++ more → length front ≤ length head
    → front ++ drop (length front) head ≡ head
front_of front rest head more is short =
    let same : front ≡ take (length front) head =
    sym (take-append_seam front rest) ∙ ap (take (length front)) is ∙ take-append-le (length front) head more short in
    ap (λ (t : List ℕ). t ++ drop (length front) head) same ∙ take-append-drop (length front) head

-- the front of a head that is taken has few fields
pub order : (m n : ℕ) → (m < n) ⊎ (n ≤ m)
order m n = (elim (nat_lt m n) as (λ (t : Bool). nat_lt m n ≡ t → (m < n) ⊎ (n ≤ m)) [
  | true ↦ λ is. inl (ltb-true m n is)
  | false ↦ λ not. inr (ltb-false m n not)
]) refl

pub few_lines : (front rest : List ℕ) (h : RequestHead) (more : List ℕ) → ReadsRequest (front ++ rest) h more
    → length h.fields ≤ field_limit → HasNoRequest front → HasFewFields front
unfolding print_request whole_lines
few_lines front rest h more reads few none =
    let head : List ℕ = print_request h in
    (elim (order (length front) (length head)) as (λ _. HasFewFields front) [
      | inr whole ↦ absurd (none h (drop (length head) front) (reads.0, sym (front_of head more front rest (sym reads.1) whole)))
      | inl short ↦
          let left : List ℕ = drop (length front) head in
          let is : front ++ left ≡ head = front_of front rest head more reads.1 (omega (arith, short)) in
          let last = ends_in_feed h in
          let some : 0 < length left = omega (arith, ap length is, length-append front left, short) in
          let feed : 0 < feeds left = last_feeds front left last.0 (is ∙ last.1) some in
          elim (behind-append front left) as (λ _. HasFewFields front) [
            | inl blank ↦ omega (arith, ap feeds blank)
            | inr same ↦ omega (
              arith,
              feed,
              few,
              feeds-append (behind_blank front) left,
              ap feeds same,
              ap whole_lines is,
              head_lines h reads.0,
            )
          ]
    ])

pub no_feeds : (bytes : List ℕ) → list_any (λ b. b == 10) bytes ≡ false → feeds bytes ≡ 0
no_feeds [] without = refl
no_feeds (b ∷ bytes) without = (elim (b == 10) as
    (λ (t : Bool). (b == 10) ≡ t → (t || list_any (λ b. b == 10) bytes) ≡ false → feeds (b ∷ bytes) ≡ 0) [
      | true ↦ λ is both. cc
      | false ↦ λ not rest. rw not (no_feeds bytes rest)
    ]) refl without

-- no head becomes whole by bytes in which no line ends
pub no_request_more : (bytes more : List ℕ) → HasNoRequest bytes → list_any (λ b. b == 10) more ≡ false → HasNoRequest (bytes ++ more)
no_request_more bytes more none without h rest reads =
    let head : List ℕ = print_request h in
    (elim (order (length bytes) (length head)) as (λ _. ⊥) [
      | inr whole ↦ none h (drop (length head) bytes) (reads.0, sym (front_of head rest bytes more (sym reads.1) whole))
      | inl short ↦
          let left : List ℕ = drop (length bytes) head in
          let is : bytes ++ left ≡ head = front_of bytes more head rest reads.1 (omega (arith, short)) in
          let last = ends_in_feed h in
          let some : 0 < length left = omega (arith, ap length is, length-append bytes left, short) in
          let feed : 0 < feeds left = last_feeds bytes left last.0 (is ∙ last.1) some in
          absurd (omega (
            arith,
            feed,
            ap feeds reads.1,
            feeds-append bytes more,
            feeds-append head rest,
            ap feeds is,
            feeds-append bytes left,
            no_feeds more without,
          ))
    ])

pub too_many : (bytes : List ℕ) (n : ℕ) → HasNoRequest bytes → n ≡ whole_lines bytes → 65 < n → IsBad bytes
too_many bytes n none is many = many_lines bytes [] (sym (append-nil bytes)) none (λ few. omega (arith, is, many, few))

pub few_enough : (bytes : List ℕ) (n : ℕ) → n ≡ whole_lines bytes → n ≤ 65 → HasFewFields bytes
few_enough bytes n is few = omega (arith, is, few)
