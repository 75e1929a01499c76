-- Lines: their bytes, their words, and what they tell.
use Rattle.std.proofs.Common.{◌≡◌, ℕ, zero, suc, ◌+◌, ◌/◌, ◌%◌, ◌<◌, ◌^◌, ◌==◌, true, false, List, [], ◌∷◌, ◌++◌, All, codes, decimal}
use Rattle.std.proofs.Common.{None, ℤ, pos, negsuc, append_assoc, arith, ap, sym, ◌∙◌, refl, subst, if◌then◌else◌}
use Rattle.std.specs.List.{join_with_byte, slice_split, AllByRecursion}
use Rattle.std.proofs.lemmas.Grind.{common_steps}
use Rattle.std.proofs.lemmas.List.{append-nil, append_cancel_right}
use Rattle.std.proofs.lemmas.List.Elements.{All-nil, All-cons, All-append, All-weaker}
use Rattle.std.proofs.lemmas.List.Splits.{slice_split_at, slice_split_none}
use Rattle.std.proofs.lemmas.Fmt.{decimal_by_steps, decimal_injective}
use Rattle.jiff_core.specs.declared.civil.datetime.DateTime.{DateTime}
use Rattle.jiff_fmt.specs.Text.{pad2, pad4, year_text, fraction_len, fraction_part}
use Rattle.jiff_fmt.specs.Text.{places}
use Rattle.jiff.specs.Names.{iso_datetime_text}
use Rattle.iiif_log.specs.Escapes.{escaped}
use Rattle.iiif_log.specs.Laws.{HasNumbers, LinesAreLines, LinesTellAnswers, last_words}
use Rattle.iiif_log.specs.Lines.{cause_word, cut_word, outcome_word, words_of}
use Rattle.iiif_log.specs.Moments.{IsMomentText, three_digits}
use Rattle.iiif_log.specs.PeerLines.{PeerLinesAreLines, PeerLinesTellTurns, peer_words, turn_word}
use Rattle.iiif_log.specs.declared.answered.Answered.{Answered}
use Rattle.iiif_log.specs.declared.answered.CutCause.{CutCause}
use Rattle.iiif_log.specs.declared.answered.CutCause.TheVariants.{Viewer, Slow, Rate, Source, Memory, Ousted}
use Rattle.iiif_log.specs.declared.answered.Failure.TheVariants as failures
use Rattle.iiif_log.specs.declared.answered.Outcome.{Outcome}
use Rattle.iiif_log.specs.declared.answered.Outcome.TheVariants.{Whole, Failed, Cut}
use Rattle.iiif_log.specs.declared.peer.PeerTurn.{PeerTurn}
use Rattle.iiif_log.specs.declared.peer.Turn.{Turn}
use Rattle.iiif_log.specs.declared.peer.Turn.TheVariants.{LeftAlone, AskedAgain, Itself}
use Rattle.iiif_log.proofs.EscapeLemmas.{Seen, escaped_is_seen, escapes_differ}

-- a word: each of its bytes is visible
record Word (bs : List ℕ) : Type 0 where
  seen : All Seen bs

none_seen : Word []
none_seen = record { seen = All-nil Seen }

one_more : (b : ℕ) (bs : List ℕ) → 32 < b → Word bs → Word (b ∷ bs)
one_more b bs above w = record { seen = All-cons Seen b bs above w.seen }

both_seen : (a b : List ℕ) → Word a → Word b → Word (a ++ b)
both_seen a b v w = record { seen = All-append Seen a b v.seen w.seen }

decimal_seen : (n : ℕ) → n < 2 ^ 64 → Word (decimal n)
decimal_seen n small =
    decimal_by_steps (λ _ ds. Word ds) (λ m below. one_more (48 + m) [] (omega arith) none_seen)
    (λ m ds above w. both_seen ds ((48 + m % 10) ∷ []) w (one_more (48 + m % 10) [] (omega arith) none_seen)) n small

pad2_seen : (n : ℕ) → Word (pad2 n)
pad2_seen n = one_more (48 + n / 10) ((48 + n % 10) ∷ []) (omega arith) (one_more (48 + n % 10) [] (omega arith) none_seen)

pad4_seen : (n : ℕ) → Word (pad4 n)
pad4_seen n = both_seen (pad2 (n / 100)) (pad2 (n % 100)) (pad2_seen (n / 100)) (pad2_seen (n % 100))

dash_seen : (b : ℕ) → 32 < b → Word (b ∷ [])
dash_seen b above = one_more b [] above none_seen

year_seen : (y : ℤ) → Word (year_text y)
year_seen (pos n) = pad4_seen n
year_seen (negsuc n) = both_seen (codes "-00") (pad4 (suc n))
    (one_more 45 (48 ∷ 48 ∷ []) (omega arith) (one_more 48 (48 ∷ []) (omega arith) (dash_seen 48 (omega arith)))) (pad4_seen (suc n))

places_seen : (k whole n : ℕ) → Word (places k whole n)
unfolding places
places_seen zero whole n = none_seen
places_seen (suc k) whole n = one_more (48 + n / (whole / 10)) (places k (whole / 10) (n % (whole / 10))) (omega arith)
    (places_seen k (whole / 10) (n % (whole / 10)))

fraction_seen : (n : ℕ) → Word (fraction_part None n)
fraction_seen n =
    elim (n == 0) as (λ t. Word (if t then [] else 46 ∷ places (fraction_len None n) 1_000_000_000 n)) [
      | true ↦ none_seen
      | false ↦ one_more 46 (places (fraction_len None n) 1_000_000_000 n) (omega arith)
          (places_seen (fraction_len None n) 1_000_000_000 n)
    ]

datetime_seen : (dt : DateTime) → Word (iso_datetime_text dt)
datetime_seen dt =
    let year = year_seen dt.date.year in
    let year_month = both_seen _ _ (both_seen _ _ year (dash_seen 45 (omega arith))) (pad2_seen dt.date.month) in
    let date = both_seen _ _ (both_seen _ _ year_month (dash_seen 45 (omega arith))) (pad2_seen dt.date.day) in
    let minute = one_more 58 _ (omega arith) (pad2_seen dt.time.minute) in
    let second = one_more 58 _ (omega arith) (pad2_seen dt.time.second) in
    let time = both_seen _ _ (both_seen _ _ (both_seen _ _ (pad2_seen dt.time.hour) minute) second)
    (fraction_seen dt.time.subsec_nanosecond) in
    both_seen _ _ date (one_more 84 _ (omega arith) time)

three_seen : (n : ℕ) → n < 1000 → Word (three_digits n)
three_seen n small =
    both_seen _ _ (both_seen _ _ (decimal_seen (n / 100) (omega arith)) (decimal_seen (n / 10 % 10) (omega arith)))
    (decimal_seen (n % 10) (omega arith))

moment_seen : (millis : ℕ) (text : List ℕ) → IsMomentText millis text → Word text
moment_seen millis text (dt, at, is) =
    subst Word (sym is) (both_seen _ _ (both_seen _ _ (datetime_seen dt)
    (one_more 46 _ (omega arith) (three_seen (millis % 1000) (omega arith)))) (dash_seen 90 (omega arith)))

-- these bytes are visible
all_seen : (bs : List ℕ) → AllByRecursion (λ b. 32 < b) bs → Word bs
all_seen [] v = none_seen
all_seen (b ∷ bs) v = one_more b bs v.0 (all_seen bs v.1)

outcome_seen : (o : Outcome) → ((s : ℕ) → o ≡ Whole s → s < 2 ^ 16) → Word (outcome_word o)
outcome_seen (Whole s) small = let below = small s refl in decimal_seen s (omega arith)
outcome_seen (Failed f) small = all_seen (codes "500") (omega arith, (omega arith, (omega arith, tt)))
outcome_seen (Cut c) small = dash_seen 45 (omega arith)

cause_seen : (c : CutCause) → Word (cause_word c)
cause_seen Viewer = all_seen (codes "viewer")
    (omega arith, (omega arith, (omega arith, (omega arith, (omega arith, (omega arith, tt))))))
cause_seen Slow = all_seen (codes "slow") (omega arith, (omega arith, (omega arith, (omega arith, tt))))
cause_seen Rate = all_seen (codes "rate") (omega arith, (omega arith, (omega arith, (omega arith, tt))))
cause_seen Source = all_seen (codes "source")
    (omega arith, (omega arith, (omega arith, (omega arith, (omega arith, (omega arith, tt))))))
cause_seen Memory = all_seen (codes "memory")
    (omega arith, (omega arith, (omega arith, (omega arith, (omega arith, (omega arith, tt))))))
cause_seen Ousted = all_seen (codes "ousted")
    (omega arith, (omega arith, (omega arith, (omega arith, (omega arith, (omega arith, tt))))))

last_seen : (o : Outcome) → AllByRecursion Word (last_words o)
last_seen (Whole s) = tt
last_seen (Failed failures.Source) = (
  all_seen (codes "L1") (omega arith, (omega arith, tt)),
  (
    all_seen (codes "source")
        (omega arith, (omega arith, (omega arith, (omega arith, (omega arith, (omega arith, tt)))))),
    tt,
  ),
)
last_seen (Failed failures.Memory) = (
  all_seen (codes "L2") (omega arith, (omega arith, tt)),
  (
    all_seen (codes "memory")
        (omega arith, (omega arith, (omega arith, (omega arith, (omega arith, (omega arith, tt)))))),
    tt,
  ),
)
last_seen (Cut c) = (all_seen (codes "cut") (omega arith, (omega arith, (omega arith, tt))), (cause_seen c, tt))

escaped_word : (bs : List ℕ) → Word (escaped bs)
escaped_word bs = record { seen = escaped_is_seen bs }

no_space : (w : List ℕ) → Word w → All (λ b. (b == 32) ≡ false) w
no_space w v = All-weaker Seen (λ b. (b == 32) ≡ false) (λ b above. grind (arith, common_steps)) w v.seen

-- words are found again in their join
split_join : (w : List ℕ) (ws : List (List ℕ)) → Word w → AllByRecursion Word ws →
    slice_split (λ b. b == 32) (join_with_byte 32 (w ∷ ws)) ≡ w ∷ ws
split_join w [] v vs = slice_split_none (λ b. b == 32) w (no_space w v)
split_join w (x ∷ xs) v vs = slice_split_at (λ b. b == 32) w 32 (join_with_byte 32 (x ∷ xs)) (no_space w v) refl ∙
    ap (λ r. w ∷ r) (split_join x xs vs.0 vs.1)

-- no byte of a join is a control byte
join_above : (w : List ℕ) (ws : List (List ℕ)) → Word w → AllByRecursion Word ws → All (λ b. 31 < b) (join_with_byte 32 (w ∷ ws))
join_above w [] v vs = All-weaker Seen (λ b. 31 < b) (λ b above. omega arith) w v.seen
join_above w (x ∷ xs) v vs =
    All-append (λ b. 31 < b) w (32 ∷ join_with_byte 32 (x ∷ xs)) (All-weaker Seen (λ b. 31 < b) (λ b above. omega arith) w v.seen)
    (All-cons (λ b. 31 < b) 32 (join_with_byte 32 (x ∷ xs)) (omega arith) (join_above x xs vs.0 vs.1))

-- what stands before the line feed
front_of : (t m o b n g : List ℕ) (end : Outcome)
    → join_with_byte 32 (t ∷ m ∷ o ∷ b ∷ n ∷ g ∷ []) ++ cut_word end ≡ join_with_byte 32 (t ∷ m ∷ o ∷ b ∷ n ∷ g ∷ last_words end)
front_of t m o b n g (Whole s) = append-nil (join_with_byte 32 (t ∷ m ∷ o ∷ b ∷ n ∷ g ∷ []))
front_of t m o b n g (Failed failures.Source) = simp append_assoc
front_of t m o b n g (Failed failures.Memory) = simp append_assoc
front_of t m o b n g (Cut c) = simp append_assoc

words_behind_seen : (a : Answered) → HasNumbers a
    → AllByRecursion Word (escaped a.method.now ∷ outcome_word a.outcome ∷ decimal a.bytes ∷ decimal a.millis ∷ escaped a.target.now ∷
    last_words a.outcome)
words_behind_seen a h = (
  escaped_word a.method.now,
  (
    outcome_seen a.outcome h.status,
    (decimal_seen a.bytes h.bytes, (decimal_seen a.millis h.millis, (escaped_word a.target.now, last_seen a.outcome))),
  ),
)

pub lines_are_lines : LinesAreLines
lines_are_lines a text h (time, moment, is) =
    let word = moment_seen a.at.millis time moment in
    let behind = words_behind_seen a h in
    let rest = escaped a.method.now ∷ outcome_word a.outcome ∷ decimal a.bytes ∷ decimal a.millis ∷ escaped a.target.now ∷ last_words
    a.outcome in
    let front = front_of time (escaped a.method.now) (outcome_word a.outcome) (decimal a.bytes) (decimal a.millis) (escaped a.target.now)
    a.outcome in (
      time,
      join_with_byte 32 (time ∷ rest),
      moment,
      is ∙ ap (λ f. f ++ 10 ∷ []) front,
      join_above time rest word behind,
      split_join time rest word behind,
    )

-- the cause of a word, by its first two bytes
abbrev cause_of : List ℕ → CutCause
cause_of [] = Viewer
cause_of (a ∷ []) = Viewer
cause_of (a ∷ b ∷ rest) =
    if a == 118 then Viewer else (
    if a == 114 then Rate else (
    if a == 109 then Memory else (
    if a == 111 then Ousted else (
    if b == 108 then Slow else Source))))

cause_back : (c : CutCause) → cause_of (cause_word c) ≡ c
cause_back Viewer = refl
cause_back Slow = refl
cause_back Rate = refl
cause_back Source = refl
cause_back Memory = refl
cause_back Ousted = refl

causes_differ : (c d : CutCause) → cause_word c ≡ cause_word d → c ≡ d
causes_differ c d e = sym (cause_back c) ∙ (ap cause_of e ∙ cause_back d)

abbrev second_of : List (List ℕ) → List ℕ
second_of [] = []
second_of (a ∷ []) = []
second_of (a ∷ b ∷ rest) = b

abbrev first_of : List ℕ → ℕ
first_of [] = 0
first_of (b ∷ bs) = b

abbrev first_of_second : List (List ℕ) → ℕ
first_of_second ws = first_of (second_of ws)

ends_differ : (o p : Outcome) → ((s : ℕ) → o ≡ Whole s → s < 2 ^ 16) → ((s : ℕ) → p ≡ Whole s → s < 2 ^ 16)
    → outcome_word o ≡ outcome_word p → last_words o ≡ last_words p → o ≡ p
ends_differ (Whole s) (Whole t) small little e last =
    let below = small s refl in let under = little t refl in
    ap Whole (decimal_injective s t (omega arith) (omega arith) e)
ends_differ (Whole s) (Cut d) small little e last = cc
ends_differ (Cut c) (Whole t) small little e last = cc
ends_differ (Whole s) (Failed failures.Source) small little e last = cc
ends_differ (Whole s) (Failed failures.Memory) small little e last = cc
ends_differ (Failed failures.Source) (Whole t) small little e last = cc
ends_differ (Failed failures.Memory) (Whole t) small little e last = cc
ends_differ (Failed f) (Cut d) small little e last = let firsts : 53 ≡ 45 = ap first_of e in grind (arith, firsts)
ends_differ (Cut c) (Failed g) small little e last = let firsts : 45 ≡ 53 = ap first_of e in grind (arith, firsts)
ends_differ (Failed failures.Source) (Failed failures.Source) small little e last = refl
ends_differ (Failed failures.Memory) (Failed failures.Memory) small little e last = refl
ends_differ (Failed failures.Source) (Failed failures.Memory) small little e last =
    let firsts : 115 ≡ 109 = ap first_of_second last in grind (arith, firsts)
ends_differ (Failed failures.Memory) (Failed failures.Source) small little e last =
    let firsts : 109 ≡ 115 = ap first_of_second last in grind (arith, firsts)
ends_differ (Cut c) (Cut d) small little e last = ap Cut (causes_differ c d (ap second_of last))

pub lines_tell_answers : LinesTellAnswers
lines_tell_answers a b text h k am bm at bt x y =
    let p = lines_are_lines a text h x in
    let q = lines_are_lines b text k y in
    let fronts : p.1 ≡ q.1 = append_cancel_right p.1 q.1 (10 ∷ []) (sym p.3 ∙ q.3) in
    let words : words_of p.0 a ++ last_words a.outcome ≡ words_of q.0 b ++ last_words b.outcome = sym p.5 ∙
    ap (slice_split (λ c. c == 32)) fronts ∙ q.5 in
    let methods : escaped a.method.now ≡ escaped b.method.now = cc in
    let targets : escaped a.target.now ≡ escaped b.target.now = cc in
    let ends : outcome_word a.outcome ≡ outcome_word b.outcome = cc in
    let lasts : last_words a.outcome ≡ last_words b.outcome = cc in
    let bytes : decimal a.bytes ≡ decimal b.bytes = cc in
    let times : decimal a.millis ≡ decimal b.millis = cc in (
      escapes_differ _ _ am bm methods,
      escapes_differ _ _ at bt targets,
      ends_differ a.outcome b.outcome h.status k.status ends lasts,
      decimal_injective a.bytes b.bytes h.bytes k.bytes bytes,
      decimal_injective a.millis b.millis h.millis k.millis times,
    )

peer_seen : Word (codes "peer")
peer_seen = all_seen (codes "peer") (omega arith, (omega arith, (omega arith, (omega arith, tt))))

turn_seen : (t : Turn) → Word (turn_word t)
turn_seen LeftAlone = all_seen (codes "left-alone") (
  omega arith,
  (
    omega arith,
    (
      omega arith,
      (
        omega arith,
        (omega arith, (omega arith, (omega arith, (omega arith, (omega arith, (omega arith, tt)))))),
      ),
    ),
  ),
)
turn_seen AskedAgain = all_seen (codes "asked-again") (
  omega arith,
  (
    omega arith,
    (
      omega arith,
      (
        omega arith,
        (omega arith, (omega arith, (omega arith, (omega arith, (omega arith, (omega arith, (omega arith, tt))))))),
      ),
    ),
  ),
)
turn_seen Itself = all_seen (codes "itself") (
  omega arith,
  (omega arith, (omega arith, (omega arith, (omega arith, (omega arith, tt))))),
)

pub peer_lines_are_lines : PeerLinesAreLines
peer_lines_are_lines p text (time, moment, is) =
    let word = moment_seen p.at.millis time moment in
    let rest = codes "peer" ∷ escaped p.name.now ∷ turn_word p.turn ∷ [] in
    let behind : AllByRecursion Word rest = (peer_seen, (escaped_word p.name.now, (turn_seen p.turn, tt))) in
    (time, join_with_byte 32 (time ∷ rest), moment, is, join_above time rest word behind, split_join time rest word behind)

turns_differ : (t u : Turn) → turn_word t ≡ turn_word u → t ≡ u
turns_differ LeftAlone LeftAlone e = refl
turns_differ LeftAlone AskedAgain e = let firsts : 108 ≡ 97 = ap first_of e in grind (arith, firsts)
turns_differ AskedAgain LeftAlone e = let firsts : 97 ≡ 108 = ap first_of e in grind (arith, firsts)
turns_differ AskedAgain AskedAgain e = refl
turns_differ Itself Itself e = refl
turns_differ Itself LeftAlone e = let firsts : 105 ≡ 108 = ap first_of e in grind (arith, firsts)
turns_differ Itself AskedAgain e = let firsts : 105 ≡ 97 = ap first_of e in grind (arith, firsts)
turns_differ LeftAlone Itself e = let firsts : 108 ≡ 105 = ap first_of e in grind (arith, firsts)
turns_differ AskedAgain Itself e = let firsts : 97 ≡ 105 = ap first_of e in grind (arith, firsts)

pub peer_lines_tell_turns : PeerLinesTellTurns
peer_lines_tell_turns a b text an bn x y =
    let p = peer_lines_are_lines a text x in
    let q = peer_lines_are_lines b text y in
    let fronts : p.1 ≡ q.1 = append_cancel_right p.1 q.1 (10 ∷ []) (sym p.3 ∙ q.3) in
    let words : peer_words p.0 a ≡ peer_words q.0 b = sym p.5 ∙ ap (slice_split (λ c. c == 32)) fronts ∙ q.5 in
    let names : escaped a.name.now ≡ escaped b.name.now = cc in
    let turns : turn_word a.turn ≡ turn_word b.turn = cc in
    (escapes_differ _ _ an bn names, turns_differ a.turn b.turn turns)
