-- The headline: what holds after every list of events, whatever their order.
use Rattle.std.specs.Prelude.{◌≡◌, ℕ, List, [], ◌∷◌, ◌++◌, false, Some, slice_get, true}
use Rattle.iiif_machine.specs.Scenes.{IsProper}
use Rattle.iiif_machine.specs.Rows.{Flight}
use Rattle.iiif_machine.specs.Worlds.{World}
use Rattle.iiif_machine.specs.Steps.{Event, is_open, step, run}
use Rattle.iiif_machine.specs.Sound.{IsSameCall, IsSound}
use Rattle.iiif_machine.specs.Promises.{Follows, AnswersRight, RefusedNow, FormsAgree, KeptRight, KnownRight, RepliedRight, reads_fail}
use Rattle.iiif_machine.specs.Promises.{NoneFailed, ShareOutcomes, WaitsGoDown, NoCircle}
use Rattle.iiif_machine.specs.Origins.{GivenBy, FaultHasOrigin, ReadyHasOrigin}
use Rattle.iiif_machine.specs.Frames.{LandsInPlace, AsksItsOwner, CallHasOrigin, CallsStay, RequestsStay, AnswerHasOrigin, IsSettled}
use Rattle.iiif_machine.specs.Frames.{KeepsOthers}

-- P holds of each event of a list, with the world before it and that after it
abbrev pub AtEach : (World → Event → World → Type 0) → World → List Event → Type 0
AtEach P w [] = Unit {0}
AtEach P w (e ∷ es) = (u : World) → step w e ≡ Some u → P w e u × AtEach P u es

-- no two open flights are of one node, key and class
abbrev pub OneIsOpen : World → Type 0
OneIsOpen w = (f g : ℕ) (x y : Flight) → slice_get w.flights f ≡ Some x → slice_get w.flights g ≡ Some y → is_open x.stage ≡ true →
    is_open y.stage ≡ true →
    IsSameCall x.lead y.lead → f ≡ g

-- What stood behind any beginning of a list of events stands so behind the whole list.
abbrev pub StaysFrom : World → List Event → World → Type 0
StaysFrom w es v = (past rest : List Event) (u : World) → es ≡ past ++ rest → run w past ≡ Some u → Follows u v

-- A list of events, each of which was allowed, made of the world w the world v.
--
-- Answers: each is the image of its request, its refusal, or a fault that was given at its node by the source of its name. A refusal
-- comes with the request's own event. Any other answer comes once what the calls of its request know decides it: all know outcomes, or,
-- where faults are early, one knows a fault and each before it a value. It is the image, or the first fault in the plan's order. A request
-- and its canonical form have one image. What was answered behind any beginning of the list stays so to its end, as does what was given,
-- what has ended, and what of a row never changes.
--
-- Values: each that is kept, known to a call or replied is the meaning of its key.
--
-- Faults: each that a call knows was given at its node by the source of its key's name. Each that stands in the world was given before
-- the list, or by an event of it, of a flight of that node and name.
--
-- Flights: of one node, key and class at most one is open. It becomes ready by events of its own alone: with a value found again, a
-- peer's, or one that it read or merged; with a fault where its own read failed, or, at its Load, with the first that a call of its parts
-- knows; or with what its own local call knows. The landing changes the one table of its node and key, at the place that goes with how
-- it became ready. A flight asks the node that owns its key by its own node's ring. Each wait of a flight for another goes to a smaller
-- number, and none waits for itself over others.
--
-- Calls: only Want and Load make calls that may ask, local where their node owns the key; GoLocal and Serve make local ones. A call that
-- has entered keeps its value or its flight, or goes where its node stops. A request waits for its calls until it is answered, or goes
-- where its node stops.
--
-- Nodes: where nothing was due before the list, no event changes a row of another node than its own.
pub record Headline (w : World) (es : List Event) (v : World) : Type 0 where
  pub answers : AnswersRight v
  pub refused : AtEach RefusedNow w es
  pub answered : AtEach AnswerHasOrigin w es
  pub canonical : FormsAgree v
  pub stays : StaysFrom w es v
  pub kept : KeptRight v
  pub known : KnownRight v
  pub replied : RepliedRight v
  pub given : GivenBy w es v
  pub alone : OneIsOpen v
  pub ready : AtEach ReadyHasOrigin w es
  pub lands : AtEach LandsInPlace w es
  pub asks : AtEach AsksItsOwner w es
  pub waits : WaitsGoDown v
  pub circle : NoCircle v
  pub calls : AtEach CallHasOrigin w es
  pub entered : AtEach CallsStay w es
  pub waiting : AtEach RequestsStay w es
  pub others : IsSettled w → AtEach KeepsOthers w es

-- It holds of every list of events that is allowed in a sound world.
abbrev pub EachRunIsRight : Type 0
EachRunIsRight = (w v : World) (es : List Event) → IsProper w.scene → IsSound w → run w es ≡ Some v → Headline w es v

-- Corollaries, which follow from the headline alone: a flight gets a fault only where its own read failed, or from a part, or from its
-- own local call; where nothing was given before and no read fails, no answer is a fault; and calls of one flight that know anything
-- know one outcome.
pub record Corollaries (w : World) (es : List Event) (v : World) : Type 0 where
  pub faults : AtEach FaultHasOrigin w es
  pub faultless : w.given ≡ [] → reads_fail es ≡ false → NoneFailed v
  pub shared : ShareOutcomes v

abbrev pub HeadlineImplies : Type 0
HeadlineImplies = (w v : World) (es : List Event) → Headline w es v → Corollaries w es v
