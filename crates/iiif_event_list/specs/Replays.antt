-- What the lines of a text come to.
use Rattle.std.specs.Prelude.{◌≡◌, ◌⊎◌, ◌<◌, ◌+◌, ◌-◌, ◌^◌, ◌++◌, ℕ, List, [], ◌∷◌, codes, Option, Some, None, length, min, slice_get}
use Rattle.std.specs.Prelude.{Bool, true, false}
use Rattle.std.specs.Char.{is_not_whitespace, is_whitespace}
use Rattle.std.specs.Str.{EmptyOrStartsWithPassing, NoCharPasses}
use Rattle.std.specs.Io.BufRead.{drop_through, first_line}
use Rattle.iiif_machine.specs.Worlds.{World, answers}
use Rattle.iiif_machine.specs.Steps.{step, run}
use Rattle.iiif_machine.specs.Headline.{Headline}
use Rattle.iiif_machine.specs.declared.events.Event.{Event}
use Rattle.iiif_world.specs.Code.{world_of, IsSoundWorld}
use Rattle.iiif_event_list.specs.Texts.{answers_text, outcome_text, said_text}
use Rattle.iiif_event_list.specs.Spellings.{LineWords, WordAt, IsEventOf, AreNoEvent, IsSetting}
use Rattle.iiif_event_list.specs.Settings.{IsSettingOf, settings_of}
use Rattle.iiif_event_list.specs.Described.{CanBegin, first_of, plain_settings, plain_world}
use Rattle.iiif_event_list.specs.declared.Stop.{Stop}
use Rattle.iiif_event_list.specs.declared.Stop.TheVariants.{Line, NotNow, Memory, Read, Write}
use Rattle.iiif_event_list.specs.declared.Mode.{Mode}
use Rattle.iiif_event_list.specs.declared.Mode.TheVariants.{Judging, Exploring}
use Rattle.iiif_event_list.specs.declared.replaying.State.{State}
use Rattle.iiif_event_list.specs.declared.replaying.State.TheVariants.{Described, Begun, Lost}

-- the world in which the next event happens: none, where it can't begin
abbrev pub world_in : State → Option World
world_in (Described d) = Some (first_of d)
world_in (Begun w) = Some (world_of w)
world_in Lost = None

-- the answers of the world that has begun; nothing, if none has
abbrev pub ended_text : State → List ℕ
ended_text (Described d) = []
ended_text (Begun w) = answers_text (answers (world_of w))
ended_text Lost = []

abbrev pub IsDescribed : State → Type 0
IsDescribed (Described d) = Unit {0}
IsDescribed (Begun w) = ⊥
IsDescribed Lost = ⊥

-- nothing was said of the world yet
abbrev pub IsNew : State → Type 0
IsNew (Described d) = settings_of d ≡ plain_settings
IsNew (Begun w) = ⊥
IsNew Lost = ⊥

-- a world has begun, and is sound
abbrev pub HasBegun : State → Type 0
HasBegun (Described d) = ⊥
HasBegun (Begun w) = IsSoundWorld (world_of w)
HasBegun Lost = ⊥

-- An event makes of a world what it does by the machine's rules: it is done, and its line says so, and what a call met or a landing kept.
-- Where it isn't allowed no event is done, the world stays as it was, and the line is not now.
abbrev pub IsOutcome : ℕ → List ℕ → World → Event → Bool → List Event → World → List ℕ → Type 0
IsOutcome number line before e allowed done after text =
    ((allowed ≡ true) × (done ≡ e ∷ []) × (run before done ≡ Some after)
    × (text ≡ outcome_text number line (codes "done" ++ said_text (length before.flights) e after)))
    ⊎ ((allowed ≡ false) × (done ≡ []) × (step before e ≡ None) × (after ≡ before)
    × (text ≡ outcome_text number line (codes "not now")))

-- The words are an event, which happens in the world that has begun, or begins by it.
pub record Happens (number : ℕ) (line : List ℕ) (ws : LineWords) (before : State) (allowed : Bool) (done : List Event) (after : State)
    (text : List ℕ) : Type 0 where
  pub event : Event
  pub spelled : IsEventOf ws event
  pub old : World
  pub new : World
  pub begun : world_in before ≡ Some old
  pub sound : IsSoundWorld old
  pub stands : world_in after ≡ Some new
  pub outcome : IsOutcome number line old event allowed done new text

-- the words set this of a world that is described
abbrev pub Sets : LineWords → State → State → Type 0
Sets ws (Described d) (Described e) = IsSettingOf ws (settings_of d) (settings_of e)
Sets ws (Described d) (Begun w) = ⊥
Sets ws (Described d) Lost = ⊥
Sets ws (Begun w) after = ⊥
Sets ws Lost after = ⊥

-- the words set something of a world that is described, and nothing is written
pub record IsSet (ws : LineWords) (before after : State) (text : List ℕ) : Type 0 where
  pub sets : Sets ws before after
  pub nothing : text ≡ []

-- a comment begins with a number sign
abbrev pub IsComment : LineWords → Type 0
IsComment ws = (w : List ℕ) × WordAt ws 0 w × (slice_get w 0 ≡ Some 35)

-- the words are one word alone
abbrev pub IsAlone : LineWords → List ℕ → Type 0
IsAlone ws w = (length ws ≡ 1) × WordAt ws 0 w

-- A world begins, or has begun, and its rows are shown: their text is read in the code.
pub record IsShown (ws : LineWords) (before after : State) : Type 0 where
  pub alone : IsAlone ws (codes "rows")
  pub stands : world_in after ≡ world_in before
  pub begun : HasBegun after

-- What a line's words come to, whether an event was allowed, and which events are done: nothing, where there are no words, or it is a
-- comment; at `world` the answers of the last world; at `rows` all rows of the world that has begun, or begins; else a setting, or an
-- event.
pub data Comes (number : ℕ) (line : List ℕ) (ws : LineWords) (before : State) (allowed : Bool) (done : List Event) (after : State)
    (text : List ℕ) : Type 0 where
  blank : (none : length ws ≡ 0) (same : after ≡ before) (fine : allowed ≡ true) (idle : done ≡ []) (nothing : text ≡ []) →
      Comes number line ws before allowed done after text
  comment : (is : IsComment ws) (same : after ≡ before) (fine : allowed ≡ true) (idle : done ≡ []) (nothing : text ≡ []) →
      Comes number line ws before allowed done after text
  next : (is : IsAlone ws (codes "world")) (new : IsNew after) (fine : allowed ≡ true) (idle : done ≡ [])
      (ended : text ≡ ended_text before) → Comes number line ws before allowed done after text
  shown : (is : IsShown ws before after) (fine : allowed ≡ true) (idle : done ≡ []) → Comes number line ws before allowed done after text
  set : (is : IsSet ws before after text) (fine : allowed ≡ true) (idle : done ≡ []) →
      Comes number line ws before allowed done after text
  happened : (is : Happens number line ws before allowed done after text) → Comes number line ws before allowed done after text

-- White space may stand before the word, which has none, and behind which white space stands, or nothing.
pub record IsFirstWord (line word rest : List ℕ) : Type 0 where
  pub gap : List ℕ
  pub parts : line ≡ gap ++ (word ++ rest)
  pub some : 0 < length word
  pub space : NoCharPasses is_not_whitespace gap
  pub dense : NoCharPasses is_whitespace word
  pub ends : (more : List ℕ) × EmptyOrStartsWithPassing is_whitespace rest more

-- the words of a line, in their order
abbrev pub AreWordsOf : List ℕ → LineWords → Type 0
AreWordsOf line [] = NoCharPasses is_not_whitespace line
AreWordsOf line (w ∷ ws) = (rest : List ℕ) × IsFirstWord line w.now rest × AreWordsOf rest ws

-- A line comes to what its words come to.
abbrev pub LineComes : ℕ → List ℕ → State → Bool → List Event → State → List ℕ → Type 0
LineComes number line before allowed done after text =
    (ws : LineWords) × AreWordsOf line ws × Comes number line ws before allowed done after text

-- no world begins: the one that is described can't, or the world was lost
abbrev pub BeginsNone : State → Type 0
BeginsNone (Described d) = ¬ (CanBegin d)
BeginsNone (Begun w) = ⊥
BeginsNone Lost = Unit {0}

-- Why words are bad: in a world that is only described they begin as a setting, of which the code says whether it can be read; or they
-- are no event, and not `rows`; or they would begin a world, and none begins.
pub data IsReason (ws : LineWords) (before : State) : Type 0 where
  setting : (is : IsSetting ws) (described : IsDescribed before) → IsReason ws before
  no_event : (none : AreNoEvent ws) (other : ¬ (IsAlone ws (codes "rows"))) → IsReason ws before
  no_world : (none : BeginsNone before) → IsReason ws before

-- There are words, which are no comment and not `world`, and a reason why they are bad.
pub record AreBad (ws : LineWords) (before : State) : Type 0 where
  pub some : ¬ (length ws ≡ 0)
  pub no_comment : ¬ (IsComment ws)
  pub not_next : ¬ (IsAlone ws (codes "world"))
  pub why : IsReason ws before

-- A line is bad where its words are.
abbrev pub IsBad : List ℕ → State → Type 0
IsBad line before = (ws : LineWords) × AreWordsOf line ws × AreBad ws before

-- the number of the line behind one, which stops at the greatest
abbrev pub number_behind : ℕ → ℕ
number_behind n = min (n + 1) (2 ^ 64 - 1)

-- the world with which the list of events began that is replayed: until it begins, the one that is described
abbrev pub first_in : State → World → World
first_in (Described d) first = first_of d
first_in (Begun w) first = first
first_in Lost first = first

-- the events of that list that were done: none, until it begins
abbrev pub done_in : State → List Event → List Event
done_in (Described d) done = []
done_in (Begun w) done = done
done_in Lost done = done

-- The events that were done made of the first world the one that has begun, and the headline holds of them.
abbrev pub HasHeadline : World → List Event → State → Type 0
HasHeadline first done (Described d) = Unit {0}
HasHeadline first done (Begun w) = (run first done ≡ Some (world_of w)) × Headline first done (world_of w)
HasHeadline first done Lost = Unit {0}

-- whether the replay goes on behind a line: where an event isn't allowed only if it is told to
abbrev pub GoesOn : Mode → Bool → Type 0
GoesOn mode allowed = (allowed ≡ true) ⊎ (mode ≡ Exploring)

-- What lines come to that stand behind one of this number, where these events of a list were done, which began with this world: each line
-- what it comes to, and of all events done so far the headline holds; and at the end the answers of the last world.
abbrev pub LinesCome : Mode → ℕ → List (List ℕ) → World → List Event → State → List ℕ → Type 0
LinesCome mode n [] first done s text = text ≡ ended_text s
LinesCome mode n (line ∷ more) first done s text =
    (t : State) × (allowed : Bool) × (new : List Event) × (front : List ℕ) × (rest : List ℕ)
    × LineComes (number_behind n) line s allowed new t front × GoesOn mode allowed
    × HasHeadline (first_in t first) (done_in t (done ++ new)) t
    × LinesCome mode (number_behind n) more (first_in t first) (done_in t (done ++ new)) t rest × (text ≡ front ++ rest)

-- the lines of a text, each without the line feed, or carriage return and line feed, that ends it
abbrev pub AreLinesOf : List ℕ → List (List ℕ) → Type 0
AreLinesOf input [] = input ≡ []
AreLinesOf input (line ∷ more) = (0 < length input) × (line ≡ first_line input) × AreLinesOf (drop_through 10 input) more

-- the lines of a reader's bytes, where these are known
abbrev pub AreLinesIn : Option (List ℕ) → List (List ℕ) → Type 0
AreLinesIn None lines = Unit {0}
AreLinesIn (Some input) lines = AreLinesOf input lines

-- the first lines of a text; and those of a reader's bytes, where these are known
abbrev pub AreFirstLinesOf : List ℕ → List (List ℕ) → Type 0
AreFirstLinesOf input [] = Unit {0}
AreFirstLinesOf input (line ∷ more) = (0 < length input) × (line ≡ first_line input) × AreFirstLinesOf (drop_through 10 input) more

abbrev pub AreFirstLinesIn : Option (List ℕ) → List (List ℕ) → Type 0
AreFirstLinesIn None lines = Unit {0}
AreFirstLinesIn (Some input) lines = AreFirstLinesOf input lines

-- A line of this number stops a replay, which writes this of it: nothing, where the line is bad; or that its event isn't allowed now.
abbrev pub StopsAt : Mode → ℕ → List ℕ → State → Stop → List ℕ → Type 0
StopsAt mode number line s (Line m) text = (m ≡ number) × IsBad line s × (text ≡ [])
StopsAt mode number line s (NotNow m) text =
    (m ≡ number) × (mode ≡ Judging) × (t : State) × (done : List Event) × LineComes number line s false done t text
StopsAt mode number line s Memory text = ⊥
StopsAt mode number line s Read text = ⊥
StopsAt mode number line s Write text = ⊥

-- Of lines that stand behind one of this number the last stops the replay; those before it come to something, and of all events done so
-- far the headline holds. This is written of them all.
abbrev pub LinesStop : Mode → ℕ → List (List ℕ) → World → List Event → State → Stop → List ℕ → Type 0
LinesStop mode n [] first done s stop text = ⊥
LinesStop mode n (line ∷ more) first done s stop text =
    ((more ≡ []) × StopsAt mode (number_behind n) line s stop text)
    ⊎ ((t : State) × (allowed : Bool) × (new : List Event) × (front : List ℕ) × (rest : List ℕ)
    × LineComes (number_behind n) line s allowed new t front × GoesOn mode allowed
    × HasHeadline (first_in t first) (done_in t (done ++ new)) t
    × LinesStop mode (number_behind n) more (first_in t first) (done_in t (done ++ new)) t stop rest × (text ≡ front ++ rest))

-- The replay of a reader stops so, at the first line that stops it, behind this text.
pub record Stops (mode : Mode) (known : Option (List ℕ)) (stop : Stop) (text : List ℕ) : Type 0 where
  pub lines : List (List ℕ)
  pub read : AreFirstLinesIn known lines
  pub start : State
  pub new : IsNew start
  pub stops : LinesStop mode 0 lines plain_world [] start stop text

-- What the replay of a reader writes: what its lines come to, from a world on of which nothing was said.
pub record Replays (mode : Mode) (known : Option (List ℕ)) (text : List ℕ) : Type 0 where
  pub lines : List (List ℕ)
  pub read : AreLinesIn known lines
  pub start : State
  pub new : IsNew start
  pub come : LinesCome mode 0 lines plain_world [] start text
