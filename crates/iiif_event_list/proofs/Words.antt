-- What splitting at white space gives are the words.
use Rattle.std.proofs.Common.{◌≡◌, ℕ, List, [], ◌∷◌, Some, None, Bor, refl, slice_get, subst, sym}
use Rattle.std.specs.Iterator.{Yields}
use Rattle.std.specs.Str.Iter.{split_whitespace_rest, split_whitespace_steps}
use Rattle.iiif_event_list.specs.Spellings.{LineWords, WordAt}
use Rattle.iiif_event_list.specs.Replays.{AreWordsOf, IsAlone, IsComment}
use Rattle.iiif_event_list.proofs.Bad.{same_word}

words_by : (ws : LineWords) (s t u : _) → Yields split_whitespace_steps s ws t → split_whitespace_steps t None u →
    AreWordsOf (split_whitespace_rest s) ws
words_by [] s t u same ends = subst (λ x. AreWordsOf (split_whitespace_rest x) []) (sym same) ends.1
words_by (w ∷ ws) s t u (j, (gap, parts, some, space, dense, behind), more) ends = (
  split_whitespace_rest j,
  record { gap = gap; parts = parts; some = some; space = space; dense = dense; ends = behind },
  words_by ws j t u more ends,
)

pub words_from : (line : List ℕ) (ws vs : LineWords) (s t u : _) → Yields split_whitespace_steps s ws t → split_whitespace_steps t None u →
    split_whitespace_rest s ≡ line → vs ≡ ws → AreWordsOf line vs
words_from line ws vs s t u yields ends whole same =
    subst (AreWordsOf line) (sym same) (subst (λ l. AreWordsOf l ws) whole (words_by ws s t u yields ends))

pub comment_at : (ws : LineWords) (x : Bor (List ℕ)) → slice_get ws 0 ≡ Some x → IsComment ws → slice_get x.now 0 ≡ Some 35
comment_at ws x at is = subst (λ (w : List ℕ). slice_get w 0 ≡ Some 35) (same_word ws 0 is.0 x.now is.1 (x, at, refl)) is.2

pub alone_at : (ws : LineWords) (v w : List ℕ) → WordAt ws 0 v → IsAlone ws w → v ≡ w
alone_at ws v w at is = same_word ws 0 v w at is.1
